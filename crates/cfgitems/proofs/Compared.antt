-- `==` of lists, if `==` of their elements compares what they show.
use Rattle.std.proofs.Common.{◌≡◌, ◌↔◌, Bool, List, [], ◌∷◌, map, IsTrue, refl}
use Rattle.std.proofs.lemmas.Bool.{false≢true, and_from, and_parts}
use Rattle.std.specs.Cmp.Lexicographic.{pointwise}

module _ {A B : Type 0} (eq : A → A → Bool) (view : A → B) (shows : (x y : A) → IsTrue (eq x y) ↔ (view x ≡ view y)) where
  pub lists_show : (xs ys : List A) → IsTrue (pointwise eq xs ys) ↔ (map view xs ≡ map view ys)
  lists_show [] [] = (λ h. refl, λ e. refl)
  lists_show [] (y ∷ ys) = (λ h. absurd (false≢true h), λ e. absurd (cc))
  lists_show (x ∷ xs) [] = (λ h. absurd (false≢true h), λ e. absurd (cc))
  lists_show (x ∷ xs) (y ∷ ys) =
      let rest = lists_show xs ys in (
        λ h. let both = and_parts (eq x y) (pointwise eq xs ys) h in λ i. (shows x y).0 both.0 i ∷ rest.0 both.1 i,
        λ e. and_from (eq x y) (pointwise eq xs ys) ((shows x y).1 (cc)) (rest.1 (cc)),
      )
