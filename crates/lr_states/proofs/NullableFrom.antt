-- Where the nullable symbols at the end of a list begin, symbol by symbol.
use Rattle.std.proofs.Common.{◌≡◌, inl, inr, ℕ, ◌+◌, ◌<◌, ◌≤◌, List, [], ◌∷◌, ◌++◌, drop, length, sym, subst, arith}
use Rattle.std.proofs.lemmas.Bool.{cases_lt}
use Rattle.std.proofs.lemmas.List.{drop-append-le, drop_all, length_push}
use Rattle.cfgrammar.specs.Grammar.{Grammar, Sym}
use Rattle.cfgrammar.specs.Derivation.{Derives, none}
use Rattle.derivation.proofs.Concatenation.{derives_both}
use Rattle.derivation.proofs.UnitPaths.{empty_in_parts}
use Rattle.lr_states.specs.Viable.{IsUsed}
use Rattle.lr_states.specs.Lookaheads.{HasUsed}
use Rattle.lr_states.specs.Inner.Edges.{IsNullableFrom}

module _ (g : Grammar) where
  abbrev P : ℕ → List Sym → Type 0
  P = HasUsed g (IsUsed g)

  past : (symbols : List Sym) (i : ℕ) → length symbols ≤ i → Derives P (drop i symbols) []
  past symbols i most = subst (λ l. Derives P l []) (sym (drop_all i symbols most)) none

  pub from_none : IsNullableFrom g [] 0
  from_none i = ((λ h. past [] i (omega arith)), (λ d. omega arith))

  module _ (symbols : List Sym) (x : Sym) where
    -- what isn't past the symbols ends in the next one
    pushed : (i : ℕ) → i ≤ length symbols → drop i (symbols ++ x ∷ []) ≡ drop i symbols ++ x ∷ []
    pushed i most = drop-append-le i symbols (x ∷ []) most

    past_pushed : (i : ℕ) → length symbols < i → Derives P (drop i (symbols ++ x ∷ [])) []
    past_pushed i past_all = let long = length_push symbols x in past (symbols ++ x ∷ []) i (omega (arith, past_all, long))

    pub from_same : (from : ℕ) → IsNullableFrom g symbols from → Derives P (x ∷ []) [] → IsNullableFrom g (symbols ++ x ∷ []) from
    from_same from known one i = elim (cases_lt (length symbols) i) [
      | inl beyond ↦ ((λ h. past_pushed i beyond), (λ d. let most = (known (length symbols)).1 (past symbols (length symbols) (omega arith)) in omega (arith, most, beyond)))
      | inr within ↦ (
        (λ h. subst (λ l. Derives P l []) (sym (pushed i within)) (derives_both P [] [] ((known i).0 h) one)),
        (λ d. (known i).1 (empty_in_parts P (drop i symbols) (x ∷ []) (subst (λ l. Derives P l []) (pushed i within) d)).0),
      )
    ]

    pub from_after : (Derives P (x ∷ []) [] → ⊥) → (from : ℕ) → from ≡ length symbols + 1 → IsNullableFrom g (symbols ++ x ∷ []) from
    from_after full from is i = elim (cases_lt (length symbols) i) [
      | inl beyond ↦ ((λ h. past_pushed i beyond), (λ d. omega (arith, is, beyond)))
      | inr within ↦ (
        (λ h. absurd (omega (arith, h, is, within))),
        (λ d. absurd (full (empty_in_parts P (drop i symbols) (x ∷ []) (subst (λ l. Derives P l []) (pushed i within) d)).1)),
      )
    ]
