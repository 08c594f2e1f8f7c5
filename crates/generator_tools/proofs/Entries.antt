-- The entries of a parsing table: what a loop over the productions of a rule has found.
use Rattle.std.proofs.Common.{◌≡◌, ◌↔◌, inl, inr, ℕ, ◌+◌, ◌<◌, ◌≤◌, List, length, get_or, Contains, Option, Some, None, Bool, true, false, IsTrue, arith, refl, sym, ap, subst, ◌∙◌}
use Rattle.std.proofs.lemmas.Bool.{cases_eq}
use Rattle.std.proofs.lemmas.List.{get_or_default}
use Rattle.cfgrammar.specs.Grammar.{Grammar}
use Rattle.cfgrammar.specs.Openings.{nth_production}
use Rattle.cfgrammar.specs.PIdx.{PIdx}
use Rattle.generator_tools.specs.Ll1.{IsDecision, IsEntry}
use Rattle.generator_tools.specs.declared.ll1.Decision.{Decision}
use Rattle.generator_tools.specs.declared.ll1.Decision.TheVariants.{NoProduction, Production, Conflict}

-- the list has the productions of the rule, each once
pub record ListsOwn (g : Grammar) (r : ℕ) (listed : List ℕ) : Type 0 where
  pub own : (k : ℕ) → k < length listed → (nth_production g (get_or listed k 0)).rule ≡ r
  pub all : (p : ℕ) → p < length g.productions → (nth_production g p).rule ≡ r → Contains listed p
  pub once : (j k : ℕ) → j < k → k < length listed → get_or listed j 0 ≡ get_or listed k 0 → ⊥

module _ (g : Grammar) (r t : ℕ) (listed : List ℕ) where
  -- p is the only entry among the first i productions
  pub record IsOnly (i p : ℕ) : Type 0 where
    pub position : ℕ
    pub before : position < i
    pub is : p ≡ get_or listed position 0
    pub entry : IsEntry g r t p
    pub only : (k : ℕ) → k < i → IsEntry g r t (get_or listed k 0) → k ≡ position

  -- the entry among the first i productions, if there is one
  abbrev pub IsFound : {S : Type 0} → (S → ℕ) → ℕ → Option (PIdx S) → Type 0
  IsFound number i None = (k : ℕ) → k < i → IsEntry g r t (get_or listed k 0) → ⊥
  IsFound number i (Some p) = IsOnly i (number p.0)

  module _ {S : Type 0} (number : S → ℕ) (i : ℕ) where
    pub found_none : IsFound number 0 None
    found_none = λ k below h. omega (arith, below)

    -- the next production isn't an entry
    pub found_same : (found : Option (PIdx S)) → IsFound number i found → (IsEntry g r t (get_or listed i 0) → ⊥) → IsFound number (i + 1) found
    found_same None none unused = λ k below h. elim (cases_eq k i) [
      | inl same ↦ unused (subst (λ n. IsEntry g r t (get_or listed n 0)) same h)
      | inr apart ↦ none k (omega (arith, below, apart)) h
    ]
    found_same (Some p) one unused = record {
      position = one.position;
      before = omega (arith, one.before);
      is = one.is;
      entry = one.entry;
      only = λ k below h. elim (cases_eq k i) [
        | inl same ↦ absurd (unused (subst (λ n. IsEntry g r t (get_or listed n 0)) same h))
        | inr apart ↦ one.only k (omega (arith, below, apart)) h
      ];
    }

    -- the next production is the first entry
    pub found_first : (p : PIdx S) → IsFound number i None → number p.0 ≡ get_or listed i 0 → IsEntry g r t (number p.0) → IsFound number (i + 1) (Some p)
    found_first p none is entry = record {
      position = i;
      before = omega arith;
      is = is;
      entry = entry;
      only = λ k below h. elim (cases_eq k i) [
        | inl same ↦ same
        | inr apart ↦ absurd (none k (omega (arith, below, apart)) h)
      ];
    }

  module _ (own : ListsOwn g r listed) {S : Type 0} (number : S → ℕ) where
    -- the next production is a second entry
    pub found_second : (i : ℕ) (first p : PIdx S) → i < length listed → IsFound number i (Some first) → number p.0 ≡ get_or listed i 0
        → IsEntry g r t (number p.0) → IsDecision number g r t (Conflict first p)
    found_second i first p within one is entry =
        (one.entry, entry, (λ same. own.once one.position i one.before within (sym one.is ∙ same ∙ is)))

    -- the production at an index, and whether it is used
    module _ (i : ℕ) (p : PIdx S) (within : i < length listed) (is : number p.0 ≡ get_or listed i 0) (used : Bool)
        (entry : IsTrue used ↔ IsEntry g (nth_production g (number p.0)).rule t (number p.0)) where
      owner : (nth_production g (number p.0)).rule ≡ r
      owner = ap (λ n. (nth_production g n).rule) is ∙ own.own i within

      is_entry : used ≡ true → IsEntry g r t (number p.0)
      is_entry on = subst (λ n. IsEntry g n t (number p.0)) owner (entry.0 on)

      pub found_unused : (found : Option (PIdx S)) → IsFound number i found → used ≡ false → IsFound number (i + 1) found
      found_unused found so_far off = found_same number i found so_far
          (λ h. let on = entry.1 (subst (λ n. IsEntry g n t (number p.0)) (sym owner) (subst (IsEntry g r t) (sym is) h)) in cc)

      pub found_used : IsFound number i None → used ≡ true → IsFound number (i + 1) (Some p)
      found_used none on = found_first number i p none is (is_entry on)

      pub found_again : (first : PIdx S) → IsFound number i (Some first) → used ≡ true → IsDecision number g r t (Conflict first p)
      found_again first one on = found_second i first p within one is (is_entry on)

    at : (p : ℕ) → IsEntry g r t p → (k : ℕ) × (k < length listed) × (get_or listed k 0 ≡ p)
    at p h = let (k, within, is) = own.all p h.within h.owner in (k, within, get_or_default listed k 0 p within ∙ is)

    pub no_entry : (i : ℕ) → length listed ≤ i → IsFound number i None → IsDecision number g r t NoProduction
    no_entry i end none = λ p h. let (k, within, is) = at p h in
        none k (omega (arith, within, end)) (subst (IsEntry g r t) (sym is) h)

    pub one_entry : (i : ℕ) (p : PIdx S) → length listed ≤ i → IsFound number i (Some p) → IsDecision number g r t (Production p)
    one_entry i p end one = λ q. (
      (λ h. let (k, within, is) = at q h in
          let same = one.only k (omega (arith, within, end)) (subst (IsEntry g r t) (sym is) h) in
          sym is ∙ ap (λ n. get_or listed n 0) same ∙ sym one.is),
      (λ same. subst (IsEntry g r t) (sym same) one.entry),
    )

-- the entry has at most one production
abbrev pub HasOne : Grammar → ℕ → ℕ → Type 0
HasOne g r t = (p q : ℕ) → IsEntry g r t p → IsEntry g r t q → p ≡ q

module _ (g : Grammar) (r t : ℕ) {S : Type 0} (number : S → ℕ) where
  pub one_decided : (d : Decision S) → IsDecision number g r t d → ((p q : PIdx S) → d ≡ Conflict p q → ⊥) → HasOne g r t
  one_decided NoProduction none apart = λ p q h k. absurd (none p h)
  one_decided (Production p) one apart = λ q s h k. (one q).0 h ∙ sym ((one s).0 k)
  one_decided (Conflict p q) two apart = absurd (apart p q refl)

  pub two_decided : (p q : PIdx S) → IsDecision number g r t (Conflict p q) → HasOne g r t → ⊥
  two_decided p q two one = two.2 (one (number p.0) (number q.0) two.0 two.1)
