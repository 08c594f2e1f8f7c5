-- What a list contains, by its first element and after a map.
use Rattle.std.proofs.Common.{◌≡◌, ◌<◌, ◌⊎◌, inl, inr, List, [], ◌∷◌, map, Contains, arith, refl, sym, ap, subst, ◌∙◌}
use Rattle.std.proofs.lemmas.List.{get_or-map, length-map}
use Rattle.std.proofs.lemmas.List.Elements.{Contains-append_right, Contains-append_cases, Contains-push_cases, Contains-get_or}

module _ {A : Type 0} where
  pub contains_first : (x : A) (xs : List A) → Contains (x ∷ xs) x
  contains_first x xs = (0, omega arith, refl)

  pub contains_later : (x y : A) (xs : List A) → Contains xs y → Contains (x ∷ xs) y
  contains_later x y xs h = Contains-append_right (x ∷ []) xs y h

  pub contains_none : (y : A) → Contains [] y → ⊥
  contains_none y (k, within, at) = omega (arith, within)

  pub contains_one : (x y : A) → Contains (x ∷ []) y → x ≡ y
  contains_one x y h = elim (Contains-push_cases [] x y h) [ inl none ↦ absurd (contains_none y none) | inr same ↦ same ]

  pub contains_cases : (x y : A) (xs : List A) → Contains (x ∷ xs) y → (x ≡ y) ⊎ Contains xs y
  contains_cases x y xs h = elim (Contains-append_cases (x ∷ []) xs y h) [ inl first ↦ inl (contains_one x y first) | inr later ↦ inr later ]

module _ {A B : Type 0} (f : A → B) where
  pub contains_mapped : (xs : List A) (x : A) → Contains xs x → Contains (map f xs) (f x)
  contains_mapped xs x (k, within, at) = subst (Contains (map f xs)) (get_or-map f xs k x (f x) within ∙ ap f at)
      (Contains-get_or (map f xs) k (f x) (subst (λ n. k < n) (sym (length-map xs f)) within))

  pub contains_source : (xs : List A) (y : B) → Contains (map f xs) y → (x : A) × Contains xs x × (f x ≡ y)
  contains_source [] y h = absurd (contains_none y h)
  contains_source (x ∷ xs) y h = elim (contains_cases (f x) y (map f xs) h) [
    | inl same ↦ (x, contains_first x xs, same)
    | inr later ↦ let (z, among, is) = contains_source xs y later in (z, contains_later x z xs among, is)
  ]
