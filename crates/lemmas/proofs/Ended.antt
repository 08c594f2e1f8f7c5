-- A list of present elements, followed by an absent one.
use Rattle.std.proofs.Common.{◌≡◌, ℕ, zero, suc, List, [], ◌∷◌, ◌++◌, map, length, slice_get, Option, Some, None, refl, arith}

module _ {A : Type 0} where
  pub somes_same : (xs ys : List A) → map Some xs ≡ map Some ys → xs ≡ ys
  somes_same [] [] e = refl
  somes_same [] (y ∷ ys) e = let no : [] ≡ Some y ∷ map Some ys = e in cc
  somes_same (x ∷ xs) [] e = let no : Some x ∷ map Some xs ≡ [] = e in cc
  somes_same (x ∷ xs) (y ∷ ys) e =
      let heads : x ≡ y = cc in
      let tails : map Some xs ≡ map Some ys = cc in
      λ i. heads i ∷ somes_same xs ys tails i

  pub none_at_end : (xs : List A) (i : ℕ) → slice_get (map Some xs ++ None ∷ []) i ≡ Some None → i ≡ length xs
  none_at_end [] zero at = refl
  none_at_end [] (suc i) at = let no : ◌≡◌ {A = Option (Option A)} None (Some None) = at in cc
  none_at_end (x ∷ xs) zero at = let no : Some (Some x) ≡ Some None = at in cc
  none_at_end (x ∷ xs) (suc i) at = omega (arith, none_at_end xs i at)
