-- Sorted items: a list of them is known by what it contains.
use Rattle.std.proofs.Common.{◌≡◌, inl, inr, List, [], ◌∷◌, Contains, refl, sym, ap, subst, ◌∙◌, arith}
use Rattle.cfgrammar.proofs.Contained.{contains_cases, contains_first, contains_later, contains_none}
use Rattle.lr_states.specs.declared.Item.{Item}
use Rattle.lr_states.specs.Viable.{AreSorted, IsBefore}

pub before_not_after : (a b : Item) → IsBefore a b → IsBefore b a → ⊥
before_not_after a b one two = grind arith

-- what is in the rest of one list is in the rest of the other
rest_within : (x : Item) (xs ys : List Item) → ((y : Item) → Contains xs y → IsBefore x y) → ((y : Item) → Contains (x ∷ xs) y → Contains (x ∷ ys) y)
    → (y : Item) → Contains xs y → Contains ys y
rest_within x xs ys after within y h = elim (contains_cases x y ys (within y (contains_later x y xs h))) [
  | inl same ↦ let itself = subst (IsBefore x) (sym same) (after y h) in absurd (before_not_after x x itself itself)
  | inr later ↦ later
]

-- the first of both are the same
first_same : (x y : Item) (xs ys : List Item) → ((z : Item) → Contains xs z → IsBefore x z) → ((z : Item) → Contains ys z → IsBefore y z)
    → Contains (y ∷ ys) x → Contains (x ∷ xs) y → x ≡ y
first_same x y xs ys above below there here = elim (contains_cases y x ys there) [
  | inl same ↦ sym same
  | inr later ↦ elim (contains_cases x y xs here) [
    | inl same ↦ same
    | inr after ↦ absurd (before_not_after x y (above y after) (below x later))
  ]
]

pub sorted_same : (xs ys : List Item) → AreSorted xs → AreSorted ys → ((y : Item) → Contains xs y → Contains ys y) → ((y : Item) → Contains ys y → Contains xs y) → xs ≡ ys
sorted_same [] [] sorted ordered to from = refl
sorted_same [] (y ∷ ys) sorted ordered to from = absurd (contains_none y (from y (contains_first y ys)))
sorted_same (x ∷ xs) [] sorted ordered to from = absurd (contains_none x (to x (contains_first x xs)))
sorted_same (x ∷ xs) (y ∷ ys) sorted ordered to from =
    let same : x ≡ y = first_same x y xs ys sorted.0 ordered.0 (to x (contains_first x xs)) (from y (contains_first y ys)) in
    let onwards : (z : Item) → Contains (x ∷ xs) z → Contains (x ∷ ys) z = λ z h. subst (λ a. Contains (a ∷ ys) z) (sym same) (to z h) in
    let back : (z : Item) → Contains (x ∷ ys) z → Contains (x ∷ xs) z = λ z h. from z (subst (λ a. Contains (a ∷ ys) z) same h) in
    let after : (z : Item) → Contains ys z → IsBefore x z = λ z h. subst (λ a. IsBefore a z) (sym same) (ordered.0 z h) in
    ap (λ l. x ∷ l) (sorted_same xs ys sorted.1 ordered.1 (rest_within x xs ys sorted.0 onwards) (rest_within x ys xs after back)) ∙ ap (λ a. a ∷ ys) same
