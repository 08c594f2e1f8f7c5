-- Lists to which an element is pushed.
use Rattle.std.proofs.Common.{◌≡◌, inl, inr, ℕ, ◌+◌, ◌<◌, List, [], ◌∷◌, ◌++◌, get_or, length, ap, sym, subst, ◌∙◌, arith}
use Rattle.std.proofs.lemmas.Bool.{cases_eq}
use Rattle.std.proofs.lemmas.List.{get_or_append_left, get_or_push, length_push}

pub each_pushed : {A : Type 0} (P : ℕ → A → Type 0) (xs new : List A) (x d : A) (k : ℕ) → new ≡ xs ++ x ∷ [] → length xs ≡ k → ((i : ℕ) → i < k → P i (get_or xs i d)) → P k x
    → (i : ℕ) → i < k + 1 → P i (get_or new i d)
each_pushed P xs new x d k is count early last i low = subst (λ l. P i (get_or l i d)) (sym is) (elim (cases_eq i k) [
  | inl same ↦ subst (P i) (sym (get_or_push xs x d i (count ∙ sym same))) (subst (λ m. P m x) (sym same) last)
  | inr apart ↦ subst (P i) (sym (get_or_append_left xs (x ∷ []) d i (omega (arith, low, apart, count)))) (early i (omega (arith, low, apart)))
])

-- so many elements, each as it is to be
pub record AreUpTo {A : Type 0} (P : ℕ → A → Type 0) (d : A) (k : ℕ) (xs : List A) : Type 0 where
  pub count : length xs ≡ k
  pub each : (i : ℕ) → i < k → P i (get_or xs i d)

pub up_to_none : {A : Type 0} (P : ℕ → A → Type 0) (d : A) (xs : List A) → xs ≡ [] → AreUpTo P d 0 xs
up_to_none P d xs none = record { count = ap length none; each = λ i low. absurd (omega (arith, low)) }

pub up_to_more : {A : Type 0} (P : ℕ → A → Type 0) (d : A) (k : ℕ) (xs new : List A) (x : A) → AreUpTo P d k xs → P k x → new ≡ xs ++ x ∷ [] → AreUpTo P d (k + 1) new
up_to_more P d k xs new x are here is = record {
  count = ap length is ∙ length_push xs x ∙ ap (λ n. n + 1) are.count;
  each = each_pushed P xs new x d k is are.count are.each here;
}
