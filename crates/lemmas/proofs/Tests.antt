-- Whether some element of a list passes a test.
use Rattle.std.proofs.Common.{◌≡◌, Bool, true, false, ◌||◌, List, [], ◌∷◌, map, filter_map, Option, Some, None, refl, ap, ◌∙◌}
use Rattle.std.specs.List.{list_any, cons_option}
use Rattle.std.specs.Option.{option_map_or}
use Rattle.std.proofs.lemmas.Bool.{or_right}

pub list_any-map : {A B : Type 0} (p : B → Bool) (f : A → B) (xs : List A) → list_any p (map f xs) ≡ list_any (λ x. p (f x)) xs
list_any-map p f [] = refl
list_any-map p f (x ∷ xs) = ap (λ t. p (f x) || t) (list_any-map p f xs)

pub list_any-filter_map : {A B : Type 0} (p : B → Bool) (h : A → Option B) (xs : List A) → list_any p (filter_map h xs) ≡ list_any (λ x. option_map_or p (h x) false) xs
list_any-filter_map p h [] = refl
list_any-filter_map {A} {B} p h (x ∷ xs) = go (h x) ∙ ap (λ t. option_map_or p (h x) false || t) (list_any-filter_map p h xs)
  where
    go : (o : Option B) → list_any p (cons_option o (filter_map h xs)) ≡ (option_map_or p o false || list_any p (filter_map h xs))
    go None = refl
    go (Some y) = refl

pub list_any_weaker : {A : Type 0} (p q : A → Bool) → ((x : A) → p x ≡ true → q x ≡ true) → (xs : List A) → list_any p xs ≡ true → list_any q xs ≡ true
list_any_weaker p q weaker [] h = h
list_any_weaker {A} p q weaker (x ∷ xs) h = go (p x) refl h (list_any_weaker p q weaker xs)
  where
    go : (t : Bool) → p x ≡ t → (t || list_any p xs) ≡ true → (list_any p xs ≡ true → list_any q xs ≡ true) → (q x || list_any q xs) ≡ true
    go true e k rest = ap (λ t. t || list_any q xs) (weaker x e)
    go false e k rest = or_right (q x) _ (rest k)
