-- What is shown of a list, and the texts that a loop has joined.
use Rattle.std.proofs.Common.{◌≡◌, ℕ, ◌+◌, ◌<◌, List, [], ◌∷◌, ◌++◌, length, map, take, get_or, All, sym, ap, subst, ◌∙◌, append-nil, arith}
use Rattle.std.specs.List.{concat}
use Rattle.std.proofs.lemmas.List.{map-append, take_more, length-map, get_or-map}
use Rattle.std.proofs.lemmas.List.Folds.{concat-append}

-- as long as what is shown
pub as_long : {A B : Type 0} (f : A → B) (xs : List A) (ys : List B) → map f xs ≡ ys → length ys ≡ length xs
as_long f xs ys same = sym (ap length same) ∙ length-map xs f

-- what is true of each element that is shown
pub All-shown : {A B : Type 0} (P : B → Type 0) (f : A → B) (xs : List A) → All P (map f xs) → All (λ x. P (f x)) xs
All-shown P f xs all = λ k d within. subst P (get_or-map f xs k d (f d) within) (all k (f d) (omega (arith, within, length-map xs f)))

-- what is shown of one more element
pub more_taken : {A B : Type 0} (f : A → B) (xs : List A) (n : ℕ) (x : A) → n < length xs → x ≡ get_or xs n x
    → map f (take (n + 1) xs) ≡ map f (take n xs) ++ f x ∷ []
more_taken f xs n x within is =
    ap (map f) (take_more xs n x within ∙ ap (λ y. take n xs ++ y ∷ []) (sym is)) ∙ map-append f (take n xs) (x ∷ [])

-- one more text after those that are joined
pub more_joined : {A B : Type 0} (text : B → List ℕ) (f : A → B) (xs : List A) (n : ℕ) (x : A) → n < length xs → x ≡ get_or xs n x
    → concat (map text (map f (take n xs))) ++ text (f x) ≡ concat (map text (map f (take (n + 1) xs)))
more_joined text f xs n x within is =
    sym (ap (λ ys. concat (map text ys)) (more_taken f xs n x within is)
    ∙ ap concat (map-append text (map f (take n xs)) (f x ∷ []))
    ∙ concat-append (map text (map f (take n xs))) (text (f x) ∷ [])
    ∙ ap (λ last. concat (map text (map f (take n xs))) ++ last) (append-nil (text (f x))))
