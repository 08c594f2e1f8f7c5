-- Sorted lists stay sorted if an element is inserted after those it doesn't come before, and before those that don't come before it.
use Rattle.std.proofs.Common.{ℕ, ◌+◌, ◌-◌, ◌<◌, ◌≤◌, inl, inr, List, length, get_or, arith, sym, subst, ◌≡◌}
use Rattle.std.specs.List.{insert}
use Rattle.std.proofs.lemmas.Bool.{cases_lt}
use Rattle.cfgchoices.specs.Inner.Candidates.{IsInOrder}
use Rattle.std.proofs.lemmas.List.Edits.{get_or-insert_at, get_or-insert_below, get_or-insert_above}

module _ {X : Type 0} (R : X → X → Type 0) (d : X) where
  module _ (xs : List X) (at : ℕ) (y : X) (within : at ≤ length xs) (ordered : IsInOrder R d xs)
      (before : (i : ℕ) → i < at → R (get_or xs i d) y) (after : (i : ℕ) → at ≤ i → i < length xs → R y (get_or xs i d)) where
    abbrev longer : List X
    longer = insert xs at y

    at_position : (i : ℕ) → i ≡ at → get_or longer i d ≡ y
    at_position i e = subst (λ k. get_or longer k d ≡ y) (sym e) (get_or-insert_at xs at y d within)

    past : (i : ℕ) → at < i → get_or longer i d ≡ get_or xs (i - 1) d
    past i lt =
        let is : (i - 1) + 1 ≡ i = omega (arith, lt) in
        subst (λ k. get_or longer k d ≡ get_or xs (i - 1) d) is (get_or-insert_above xs at y d (i - 1) (omega (arith, lt)) within)

    prefix : (i : ℕ) → i < at → get_or longer i d ≡ get_or xs i d
    prefix i lt = get_or-insert_below xs at y d i lt within

    pair : (i j : ℕ) (a b : X) → get_or longer i d ≡ a → get_or longer j d ≡ b → R a b → R (get_or longer i d) (get_or longer j d)
    pair i j a b e f h = subst (λ u. R u (get_or longer j d)) (sym e) (subst (R a) (sym f) h)

    pub insert_in_order : (i j : ℕ) → i < j → j < length xs + 1 → R (get_or longer i d) (get_or longer j d)
    insert_in_order i j lt short = elim (cases_lt i at) [
      | inl low ↦ elim (cases_lt j at) [
        | inl low' ↦ pair i j _ _ (prefix i low) (prefix j low') (ordered i j lt (omega (arith, low', within)))
        | inr high ↦ elim (cases_lt at j) [
          | inl past' ↦ pair i j _ _ (prefix i low) (past j past') (ordered i (j - 1) (omega (arith, low, past')) (omega (arith, past', short)))
          | inr same ↦ pair i j _ _ (prefix i low) (at_position j (omega (arith, high, same))) (before i low)
        ]
      ]
      | inr high ↦ elim (cases_lt at i) [
        | inl past' ↦ pair i j _ _ (past i past') (past j (omega (arith, past', lt))) (ordered (i - 1) (j - 1) (omega (arith, past', lt)) (omega (arith, past', lt, short)))
        | inr same ↦ pair i j _ _ (at_position i (omega (arith, high, same))) (past j (omega (arith, same, high, lt))) (after (j - 1) (omega (arith, same, high, lt)) (omega (arith, same, high, lt, short)))
      ]
    ]
