-- What is true at each index of a list that elements are appended to.
use Rattle.std.proofs.Common.{◌≡◌, ℕ, ◌+◌, ◌<◌, inl, inr, List, [], ◌∷◌, ◌++◌, get_or, length, arith, sym, subst}
use Rattle.std.proofs.lemmas.Bool.{cases_lt}
use Rattle.std.proofs.lemmas.List.{get_or_append_left, get_or_push}

pub each_push : {A : Type 0} (P : ℕ → A → Type 0) (d : A) (xs xs' : List A) (n : ℕ) (x : A) → length xs ≡ n → xs' ≡ xs ++ x ∷ [] → ((i : ℕ) → i < n → P i (get_or xs i d)) → P n x
    → (i : ℕ) → i < n + 1 → P i (get_or xs' i d)
each_push P d xs xs' n x len grown before here i lt = subst (λ l. P i (get_or l i d)) (sym grown) (elim (cases_lt i n) [
  | inl below ↦ subst (P i) (sym (get_or_append_left xs (x ∷ []) d i (omega (arith, below, len)))) (before i below)
  | inr past ↦
      let is : n ≡ i = omega (arith, past, lt) in
      subst (λ m. P m (get_or (xs ++ x ∷ []) m d)) is (subst (P n) (sym (get_or_push xs x d n len)) here)
])
