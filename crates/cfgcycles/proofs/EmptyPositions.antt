-- Symbols that are found to be nullable, index by index.
use Rattle.std.proofs.Common.{◌≡◌, ℕ, ◌+◌, ◌<◌, ◌≤◌, ◌↔◌, inl, inr, List, Bool, true, false, IsTrue, map, get_or, length, arith, sym, ap, ◌∙◌, subst, true≢false}
use Rattle.std.proofs.lemmas.Bool.{cases_lt}
use Rattle.std.proofs.lemmas.List.{get_or-map}
use Rattle.derivation.specs.Grammar.{Sym, Token}
use Rattle.cfganalysis.specs.Firsts.{FirstSets}
use Rattle.cfgcycles.specs.Inner.Putting.{AreNullableBetween, is_empty}

pub symbol_at : {A : Type 0} (f : A → Sym) (symbols : List A) (i : ℕ) (s : A) → i < length symbols → s ≡ get_or symbols i s
    → get_or (map f symbols) i (Token 0) ≡ f s
symbol_at f symbols i s lt is = get_or-map f symbols i s (Token 0) lt ∙ ap f (sym is)

module _ (x : FirstSets) (a : List Sym) (i : ℕ) where
  one_more : (from : ℕ) → AreNullableBetween x a from i → IsTrue (is_empty x (get_or a i (Token 0))) → AreNullableBetween x a from (i + 1)
  one_more from h now k le lt = elim (cases_lt k i) [
    | inl before ↦ h k le before
    | inr at ↦ let same : i ≡ k = omega (arith, at, lt) in subst (λ n. IsTrue (is_empty x (get_or a n (Token 0)))) same now
  ]

  one_less : (from : ℕ) → AreNullableBetween x a from (i + 1) → AreNullableBetween x a from i
  one_less from h k le lt = h k le (omega (arith, lt))

  pub position_kept : (from : ℕ) → ((p : ℕ) → (from ≤ p) ↔ AreNullableBetween x a p i) → IsTrue (is_empty x (get_or a i (Token 0)))
      → (p : ℕ) → (from ≤ p) ↔ AreNullableBetween x a p (i + 1)
  position_kept from h now p = ((λ le. one_more p ((h p).0 le) now), (λ all. (h p).1 (one_less p all)))

  pub position_moved : is_empty x (get_or a i (Token 0)) ≡ false → (p : ℕ) → (i + 1 ≤ p) ↔ AreNullableBetween x a p (i + 1)
  position_moved not p = (
    (λ le k from lt. absurd (omega (arith, le, from, lt))),
    (λ all. elim (cases_lt i p) [
      | inl past ↦ omega (arith, past)
      | inr le ↦ absurd (true≢false (sym (all i le (omega arith)) ∙ not))
    ]),
  )

  pub prefix_kept : (prefix now : Bool) → (prefix ≡ true) ↔ AreNullableBetween x a 0 i → prefix ≡ true → now ≡ is_empty x (get_or a i (Token 0))
      → (now ≡ true) ↔ AreNullableBetween x a 0 (i + 1)
  prefix_kept prefix now h is at = ((λ on. one_more 0 (h.0 is) (sym at ∙ on)), (λ all. at ∙ all i (omega arith) (omega arith)))

  pub prefix_gone : (prefix : Bool) → (prefix ≡ true) ↔ AreNullableBetween x a 0 i → prefix ≡ false → (prefix ≡ true) ↔ AreNullableBetween x a 0 (i + 1)
  prefix_gone prefix h not = ((λ on. absurd (true≢false (sym on ∙ not))), (λ all. h.1 (one_less 0 all)))
