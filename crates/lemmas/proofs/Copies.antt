-- A copy shows what its source shows.
use Rattle.std.proofs.Common.{◌≡◌, List, [], ◌∷◌, map, Option, Some, None, option_map, refl, ap}
use Rattle.std.specs.List.{AllZip}

-- a copy of an optional value
abbrev pub AreCopies : {A : Type 0} → (A → A → Type 0) → Option A → Option A → Type 0
AreCopies R None None = Unit {0}
AreCopies R None (Some y) = ⊥
AreCopies R (Some x) None = ⊥
AreCopies R (Some x) (Some y) = R x y

pub map-copies : {A B : Type 0} (R : A → A → Type 0) (f : A → B) → ((x y : A) → R x y → f y ≡ f x) → (xs ys : List A) → AllZip R xs ys → map f ys ≡ map f xs
map-copies R f same [] [] h = refl
map-copies R f same [] (y ∷ ys) h = absurd h
map-copies R f same (x ∷ xs) [] h = absurd h
map-copies R f same (x ∷ xs) (y ∷ ys) h = λ i. same x y h.0 i ∷ map-copies R f same xs ys h.1 i

pub option_map-copies : {A B : Type 0} (R : A → A → Type 0) (f : A → B) → ((x y : A) → R x y → f y ≡ f x) → (o p : Option A) → AreCopies R o p → option_map f p ≡ option_map f o
option_map-copies R f same None None h = refl
option_map-copies R f same None (Some y) h = absurd h
option_map-copies R f same (Some x) None h = absurd h
option_map-copies R f same (Some x) (Some y) h = ap Some (same x y h)
