-- The list of a rule's productions has each of them once.
use Rattle.std.proofs.Common.{◌≡◌, ◌↔◌, inl, inr, ℕ, zero, suc, ◌<◌, ◌≤◌, ◌==◌, nat_eq, if◌then◌else◌, List, [], ◌∷◌, length, map, count_by, get_or, Some, option_map, All, arith, eq-eqb, refl, sym, ap, subst, ◌∙◌}
use Rattle.std.proofs.lemmas.Bool.{cases_Bool}
use Rattle.std.proofs.lemmas.List.{get_or-map, length-map}
use Rattle.std.proofs.lemmas.List.Elements.{All-map, Contains-get_or}
use Rattle.std.proofs.lemmas.List.Sums.{get_or-le-sum_by, sum_by-cons}
use Rattle.std.proofs.lemmas.Option.{get_or_from_slice_get, same_Some}
use Rattle.cfgrammar.proofs.Elements.{element_at}
use Rattle.cfgrammar.proofs.ListedPositions.{listed_positions}
use Rattle.cfgrammar.specs.Accessors.{production_part, rule_part}
use Rattle.cfgrammar.specs.Grammar.{Sym}
use Rattle.cfgrammar.specs.Numbered.{Numbered, NumberedProduction, core, production_core}
use Rattle.cfgrammar.specs.Openings.{nth_production}
use Rattle.cfgrammar.specs.PIdx.{PIdx}
use Rattle.cfgrammar.specs.WellNumbered.{ListsEachOnce}
use Rattle.generator_tools.specs.Ll1.{IsEntry, IsUsedAt}
use Rattle.generator_tools.proofs.Entries.{ListsOwn}

-- the number p at one index, and at two
abbrev weight : ℕ → ℕ → ℕ
weight p x = if nat_eq p x then 1 else 0

weighs : (p x : ℕ) → x ≡ p → weight p x ≡ 1
weighs p x e = ap (λ b. if b then 1 else 0) (eq-eqb p x (sym e))

once : (p : ℕ) (xs : List ℕ) (k : ℕ) → k < length xs → get_or xs k 0 ≡ p → 1 ≤ count_by (nat_eq p) xs
once p xs k within is = omega (arith, get_or-le-sum_by (weight p) xs k 0 within, weighs p (get_or xs k 0) is)

twice : (p : ℕ) (xs : List ℕ) (j k : ℕ) → j < k → k < length xs → get_or xs j 0 ≡ p → get_or xs k 0 ≡ p → 2 ≤ count_by (nat_eq p) xs
twice p [] j k before within is same = absurd (omega (arith, within))
twice p (x ∷ xs) j zero before within is same = absurd (omega (arith, before))
twice p (x ∷ xs) zero (suc k) before within is same =
    omega (arith, sum_by-cons (weight p) x xs, weighs p x is, once p xs k (omega (arith, within)) same)
twice p (x ∷ xs) (suc j) (suc k) before within is same =
    omega (arith, sum_by-cons (weight p) x xs, twice p xs j k (omega (arith, before)) (omega (arith, within)) is same)

-- a production by its number
module _ (g : Numbered) (p : ℕ) (within : p < length g.productions) where
  part_at : {A : Type 0} (part : NumberedProduction → A) (v : A) → production_part part g p ≡ Some v
      → (x : NumberedProduction) × (nth_production (core g) p ≡ production_core x) × (part x ≡ v)
  part_at part v found =
      let (x, read) = element_at g.productions p within in (
        x,
        get_or-map production_core g.productions p x _ within ∙ ap production_core (get_or_from_slice_get g.productions p x x read),
        same_Some _ _ (sym (ap (option_map part) read) ∙ found),
      )

  pub rule_at : (owner : ℕ) → production_part (λ x. x.rule) g p ≡ Some owner → (nth_production (core g) p).rule ≡ owner
  rule_at owner found = let (x, is, same) = part_at (λ y. y.rule) owner found in ap (λ y. y.rule) is ∙ same

  pub symbols_at : (symbols : List Sym) → production_part (λ x. x.symbols) g p ≡ Some symbols → (nth_production (core g) p).symbols ≡ symbols
  symbols_at symbols found = let (x, is, same) = part_at (λ y. y.symbols) symbols found in ap (λ y. y.symbols) is ∙ same

  -- what says where it is used says of which entries it is one
  pub entry_at : (r t : ℕ) (symbols : List Sym) (Used : Type 0) → (nth_production (core g) p).rule ≡ r → (nth_production (core g) p).symbols ≡ symbols
      → Used ↔ IsUsedAt (core g) r symbols t → Used ↔ IsEntry (core g) (nth_production (core g) p).rule t p
  entry_at r t symbols Used owner are used = (
    (λ h. record {
      within = subst (λ n. p < n) (sym (length-map g.productions production_core)) within;
      owner = refl;
      used = subst (λ n. IsUsedAt (core g) n (nth_production (core g) p).symbols t) (sym owner)
          (subst (λ l. IsUsedAt (core g) r l t) (sym are) (used.0 h));
    }),
    (λ h. used.1 (subst (λ l. IsUsedAt (core g) r l t) are
        (subst (λ n. IsUsedAt (core g) n (nth_production (core g) p).symbols t) owner h.used))),
  )

module _ (g : Numbered) (r : ℕ) (listed : List ℕ) (each : ListsEachOnce g) (at : rule_part (λ x. x.productions) g r ≡ Some listed)
    (within : All (λ p. p < length g.productions) listed) where
  at_most_once : (p : ℕ) → p < length g.productions → count_by (nat_eq p) listed ≤ 1
  at_most_once p inside =
      let (x, read) = element_at g.productions p inside in
      let often = each p x.rule r listed (ap (option_map (λ y. y.rule)) read) at in
      elim (cases_Bool (r == x.rule)) [
        | inl i ↦ omega (arith, often, ap {B = ℕ} (λ b. if b then 1 else 0) i)
        | inr i ↦ omega (arith, often, ap {B = ℕ} (λ b. if b then 1 else 0) i)
      ]

  pub lists_own : ListsOwn (core g) r listed
  lists_own =
      let positions = listed_positions g r listed each at within in
      record {
        own = λ k below. (positions.listed (get_or listed k 0) (positions.within k 0 below)).0 (Contains-get_or listed k 0 below);
        all = λ p inside owner. (positions.listed p inside).1 owner;
        once = λ j k before below same.
            let twice = twice (get_or listed k 0) listed j k before below same refl in
            let most = at_most_once (get_or listed k 0) (within k 0 below) in
            omega (arith, twice, most);
      }

-- the same of the list that a call returned
pub lists_shown : {S : Type 0} (number : S → ℕ) (g : Numbered) (r : ℕ) (items : List (PIdx S)) → ListsEachOnce g
    → rule_part (λ x. x.productions) g r ≡ Some (map (λ p. number p.0) items) → All (λ p. number p.0 < length g.productions) items
    → ListsOwn (core g) r (map (λ p. number p.0) items)
lists_shown number g r items each at within =
    lists_own g r (map (λ p. number p.0) items) each at (All-map (λ p. p < length g.productions) (λ p. number p.0) items within)

-- an item of the list, as it is shown
pub shown_at : {X : Type 0} (f : X → ℕ) (xs : List X) (i : ℕ) (x : X) → i < length xs → x ≡ get_or xs i x → f x ≡ get_or (map f xs) i 0
shown_at f xs i x within is = sym (get_or-map f xs i x 0 within ∙ ap f (sym is))

pub shown_within : {X : Type 0} (f : X → ℕ) (xs : List X) (i : ℕ) → i < length xs → i < length (map f xs)
shown_within f xs i within = subst (λ n. i < n) (sym (length-map xs f)) within

pub shown_end : {X : Type 0} (f : X → ℕ) (xs : List X) (i : ℕ) → length xs ≤ i → length (map f xs) ≤ i
shown_end f xs i past = subst (λ n. n ≤ i) (sym (length-map xs f)) past
