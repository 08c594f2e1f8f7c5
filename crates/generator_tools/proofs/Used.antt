-- Where a production is used, symbol by symbol.
use Rattle.std.proofs.Common.{◌≡◌, ◌↔◌, inl, inr, ℕ, ◌+◌, ◌<◌, ◌≤◌, List, [], ◌∷◌, length, map, drop, get_or, sym, ap, ◌∙◌}
use Rattle.std.proofs.lemmas.List.{drop_all, drop_more}
use Rattle.cfgrammar.specs.Grammar.{Sym, Rule, Token}
use Rattle.generator_tools.specs.Inner.Sets.{IsUsedBySets}

module _ (E : ℕ → Type 0) (F W : ℕ → ℕ → Type 0) (r t : ℕ) (symbols : List Sym) where
  -- the production is used exactly if it would be with the rest of its symbols alone
  pub record Continues (rest : List Sym) : Type 0 where
    pub onwards : IsUsedBySets E F W r symbols t → IsUsedBySets E F W r rest t
    pub back : IsUsedBySets E F W r rest t → IsUsedBySets E F W r symbols t

  pub used_at_start : Continues symbols
  used_at_start = record { onwards = λ h. h; back = λ h. h }

  pub used_at_end : Continues [] → IsUsedBySets E F W r symbols t ↔ W r t
  used_at_end all = (all.onwards, all.back)

  pub used_at_token : (u : ℕ) (left : List Sym) → Continues (Token u ∷ left) → IsUsedBySets E F W r symbols t ↔ (u ≡ t)
  used_at_token u left all = (all.onwards, all.back)

  module _ (q : ℕ) (left : List Sym) (all : Continues (Rule q ∷ left)) where
    pub used_at_rule : F q t → IsUsedBySets E F W r symbols t
    used_at_rule begins = all.back (inl begins)

    pub unused_at_rule : (F q t → ⊥) → (E q → ⊥) → IsUsedBySets E F W r symbols t → ⊥
    unused_at_rule begins nullable h = elim (all.onwards h) [ inl f ↦ begins f | inr k ↦ nullable k.0 ]

    pub used_after_rule : (F q t → ⊥) → E q → Continues left
    used_after_rule begins nullable = record {
      onwards = λ h. elim (all.onwards h) [ inl f ↦ absurd (begins f) | inr k ↦ k.1 ];
      back = λ h. all.back (inr (nullable, h));
    }

-- the symbols that are left: none, or this one and those after it
pub none_left : {X : Type 0} (f : X → Sym) (xs : List X) (i : ℕ) → length xs ≤ i → map f (drop i xs) ≡ []
none_left f xs i past = ap (map f) (drop_all i xs past)

pub one_left : {X : Type 0} (f : X → Sym) (xs : List X) (i : ℕ) (x y : X) → i < length xs → x ≡ get_or xs i x → x ≡ y
    → map f (drop i xs) ≡ f y ∷ map f (drop (i + 1) xs)
one_left f xs i x y within is shown =
    ap (map f) (drop_more xs i x within) ∙ ap (λ z. f z ∷ map f (drop (i + 1) xs)) (sym is ∙ shown)
