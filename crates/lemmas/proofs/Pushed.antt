-- Lists with one more element at the end, if there is one or it is new.
use Rattle.std.proofs.Common.{◌≡◌, Bool, true, false, List, [], ◌∷◌, ◌++◌, map, filter_map, slice_get, Option, Some, None, refl, ◌∙◌, append-nil}
use Rattle.std.specs.Option.{option_or, option_map, option_to_list}
use Rattle.std.proofs.lemmas.List.{map-append}
use Rattle.lemmas.specs.Lists.{pushed, pushed_unless}
use Rattle.lemmas.proofs.Growing.{filter_map-push}

pub map-pushed : {A B : Type 0} (f : A → B) (xs : List A) (o : Option A) → map f (pushed xs o) ≡ pushed (map f xs) (option_map f o)
map-pushed f xs None = refl
map-pushed f xs (Some x) = map-append f xs (x ∷ [])

pub filter_map-pushed : {A B : Type 0} (h : A → Option B) (xs : List A) (x : A) → filter_map h (xs ++ x ∷ []) ≡ pushed (filter_map h xs) (h x)
filter_map-pushed {A} {B} h xs x = filter_map-push h xs x ∙ go (h x)
  where
    go : (o : Option B) → filter_map h xs ++ option_to_list o ≡ pushed (filter_map h xs) o
    go None = append-nil (filter_map h xs)
    go (Some y) = refl

pub slice_get-push : {A : Type 0} (xs : List A) (x : A) → slice_get (xs ++ x ∷ []) 0 ≡ option_or (slice_get xs 0) (Some x)
slice_get-push [] x = refl
slice_get-push (y ∷ xs) x = refl

pub map-pushed_unless : {A B : Type 0} (f : A → B) (known : Bool) (xs : List A) (x : A) → map f (pushed_unless known xs x) ≡ pushed_unless known (map f xs) (f x)
map-pushed_unless f true xs x = refl
map-pushed_unless f false xs x = map-append f xs (x ∷ [])
