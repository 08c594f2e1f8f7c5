-- When two reports are equal.
use Rattle.std.proofs.Common.{◌≡◌, ◌↔◌, Bool, List, [], ◌∷◌, refl, IsTrue}
use Rattle.std.proofs.lemmas.Bool.{false≢true, and_from, and_parts}
use Rattle.std.specs.Cmp.Lexicographic.{pointwise}

-- `==` of lists, if `==` of their elements holds only of the same
pub lists_equal : {A : Type 0} (eq : A → A → Bool) → ((x y : A) → IsTrue (eq x y) ↔ (x ≡ y)) → (xs ys : List A) → IsTrue (pointwise eq xs ys) ↔ (xs ≡ ys)
lists_equal eq same [] [] = (λ h. refl, λ e. refl)
lists_equal eq same [] (y ∷ ys) = (λ h. absurd (false≢true h), λ e. absurd (cc))
lists_equal eq same (x ∷ xs) [] = (λ h. absurd (false≢true h), λ e. absurd (cc))
lists_equal eq same (x ∷ xs) (y ∷ ys) =
    let rest = lists_equal eq same xs ys in (
      λ h. let both = and_parts (eq x y) (pointwise eq xs ys) h in λ i. (same x y).0 both.0 i ∷ rest.0 both.1 i,
      λ e. and_from (eq x y) (pointwise eq xs ys) ((same x y).1 (cc)) (rest.1 (cc)),
    )
