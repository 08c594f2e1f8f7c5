-- One more rule is settled: existing sums stay, and each new sum is at least what the rule costs.
use Rattle.std.proofs.Common.{◌≡◌, ℕ, zero, suc, ◌<◌, ◌≤◌, ◌⊎◌, inl, inr, List, [], ◌∷◌, length, get_or, Option, Some, None, All, arith, sym, ap, ◌∙◌}
use Rattle.std.proofs.lemmas.Option.{same_Some}
use Rattle.std.proofs.lemmas.List.Elements.{All-nil, All-cons}
use Rattle.derivation.specs.Grammar.{Sym, Rule, Token}
use Rattle.derivation.specs.Sums.{sum_of, symbol_cost}
use Rattle.derivation.proofs.Sums.{plus_parts, plus_both}

-- a symbol of a sum has a cost, which is at most the sum
pub record IsPart (f : Sym → Option ℕ) (s : Sym) (n : ℕ) : Type 0 where
  pub value : ℕ
  pub is : f s ≡ Some value
  pub within : value ≤ n

module _ (f : Sym → Option ℕ) where
  pub part_at : (a : List Sym) (i : ℕ) (s : Sym) (n : ℕ) → i < length a → get_or a i s ≡ s → sum_of f a ≡ Some n → IsPart f s n
  part_at [] i s n within at e = absurd (omega (arith, within))
  part_at (x ∷ a) zero s n within at e = let p = plus_parts (f x) (sum_of f a) n e in
      record { value = p.first; is = ap f (sym at) ∙ p.first_is; within = omega (arith, p.whole) }
  part_at (x ∷ a) (suc i) s n within at e =
      let p = plus_parts (f x) (sum_of f a) n e in
      let q = part_at a i s p.second (omega (arith, within)) at p.second_is in
      record { value = q.value; is = q.is; within = omega (arith, p.whole, q.within) }

  -- each symbol of a sum has a cost
  pub record HasCost (s : Sym) : Type 0 where
    pub value : ℕ
    pub is : f s ≡ Some value

  pub all_have_costs : (a : List Sym) (n : ℕ) → sum_of f a ≡ Some n → All HasCost a
  all_have_costs [] n e = All-nil HasCost
  all_have_costs (x ∷ a) n e = let p = plus_parts (f x) (sum_of f a) n e in
      All-cons HasCost x a (record { value = p.first; is = p.first_is }) (all_have_costs a p.second p.second_is)

module _ (f g : Sym → Option ℕ) where
  pub sum_kept : ((s : Sym) (d : ℕ) → f s ≡ Some d → g s ≡ Some d) → (a : List Sym) (n : ℕ) → sum_of f a ≡ Some n → sum_of g a ≡ Some n
  sum_kept kept [] n e = e
  sum_kept kept (x ∷ a) n e = let p = plus_parts (f x) (sum_of f a) n e in
      plus_both (g x) (sum_of g a) p.first p.second (kept x p.first p.first_is) (sum_kept kept a p.second p.second_is) ∙ ap Some (sym p.whole)

-- rule r, which wasn't settled, is settled at c
pub record Gains (old new : ℕ → Option ℕ) (r c : ℕ) : Type 0 where
  pub before : old r ≡ None
  pub now : new r ≡ Some c
  pub others : (q : ℕ) → (new q ≡ old q) ⊎ (q ≡ r)

module _ (cost : ℕ → ℕ) (old new : ℕ → Option ℕ) (r c : ℕ) (gains : Gains old new r c) where
  pub rule_kept : (q d : ℕ) → old q ≡ Some d → new q ≡ Some d
  rule_kept q d e = elim (gains.others q) [
    | inl same ↦ same ∙ e
    | inr is ↦ let no : None ≡ Some d = sym gains.before ∙ ap old (sym is) ∙ e in absurd (cc)
  ]

  pub rule_gained : (q d : ℕ) → new q ≡ Some d → (old q ≡ Some d) ⊎ ((q ≡ r) × (d ≡ c))
  rule_gained q d e = elim (gains.others q) [
    | inl same ↦ inl (sym same ∙ e)
    | inr is ↦ let same : d ≡ c = same_Some _ _ (sym e ∙ ap new is ∙ gains.now) in inr (is, same)
  ]

  symbol_kept : (s : Sym) (d : ℕ) → symbol_cost cost old s ≡ Some d → symbol_cost cost new s ≡ Some d
  symbol_kept (Token t) d e = e
  symbol_kept (Rule q) d e = rule_kept q d e

  pub sequence_kept : (a : List Sym) (n : ℕ) → sum_of (symbol_cost cost old) a ≡ Some n → sum_of (symbol_cost cost new) a ≡ Some n
  sequence_kept a n e = sum_kept (symbol_cost cost old) (symbol_cost cost new) symbol_kept a n e
