-- Optional elements.
use Rattle.std.proofs.Common.{◌≡◌, ℕ, Bool, true, false, cond, List, [], ◌∷◌, filter_map, slice_get, All, Option, Some, None, option_map, is_some, refl, subst, true≢false}
use Rattle.std.specs.List.{cons_option}
use Rattle.std.specs.Option.{option_to_list}
use Rattle.std.specs.Prelude.{IfSome}
use Rattle.std.proofs.lemmas.List.Elements.{All-nil, All-cons, All-head, All-tail}
use Rattle.std.proofs.lemmas.Option.{slice_get_within, get_or_from_slice_get}

pub None-from_is_some : {A : Type 0} (o : Option A) → is_some o ≡ false → o ≡ None
None-from_is_some None e = refl
None-from_is_some (Some x) e = absurd (true≢false e)

pub is_some-option_map : {A B : Type 0} (f : A → B) (o : Option A) → is_some (option_map f o) ≡ is_some o
is_some-option_map f None = refl
is_some-option_map f (Some x) = refl

-- what a choice that gives something chose
pub chosen : {A : Type 0} (t : Bool) (o : Option A) (x : A) → cond t o None ≡ Some x → (t ≡ true) × (o ≡ Some x)
chosen true o x e = (refl, e)
chosen false o x e = cc

-- what holds of all elements holds of the one at an index
pub All-slice_get : {A : Type 0} (P : A → Type 0) (xs : List A) (i : ℕ) → All P xs → IfSome (slice_get xs i) P
All-slice_get {A} P xs i all = go (slice_get xs i) refl
  where
    go : (o : Option A) → slice_get xs i ≡ o → IfSome o P
    go None e = tt
    go (Some x) e = subst P (get_or_from_slice_get xs i x x e) (all i x (slice_get_within xs i x e))

-- of a function's results
pub All-filter_map : {A B : Type 0} (P : B → Type 0) (h : A → Option B) (xs : List A) → All (λ x. IfSome (h x) P) xs → All P (filter_map h xs)
All-filter_map P h [] all = All-nil P
All-filter_map {A} {B} P h (x ∷ xs) all = go (h x) (All-head (λ y. IfSome (h y) P) x xs all) (All-filter_map P h xs (All-tail (λ y. IfSome (h y) P) x xs all))
  where
    go : (o : Option B) → IfSome o P → All P (filter_map h xs) → All P (cons_option o (filter_map h xs))
    go None here rest = rest
    go (Some y) here rest = All-cons P y (filter_map h xs) here rest

-- of the list of an optional element
pub All-option_to_list : {A : Type 0} (P : A → Type 0) (o : Option A) → IfSome o P → All P (option_to_list o)
All-option_to_list P None here = All-nil P
All-option_to_list P (Some x) here = All-cons P x [] here (All-nil P)
