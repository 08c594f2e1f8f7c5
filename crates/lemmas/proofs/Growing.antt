-- Lists that grow at their end.
use Rattle.std.proofs.Common.{◌≡◌, List, [], ◌∷◌, ◌++◌, map, filter_map, Option, Some, None, refl, sym, ap, subst, ◌∙◌, append_assoc, append-nil}
use Rattle.std.specs.List.{cons_option}
use Rattle.std.specs.Option.{option_to_list}
use Rattle.std.proofs.lemmas.List.{map_push}
use Rattle.std.proofs.lemmas.List.Elements.{filter_map-append}

-- what holds of the empty list, and is preserved by a push, holds of each list
pub from_pushes : {A : Type 0} (P : List A → Type 0) → P [] → ((xs : List A) (x : A) → P xs → P (xs ++ x ∷ [])) → (xs : List A) → P xs
from_pushes {A} P none more xs = go [] xs none
  where
    go : (prefix rest : List A) → P prefix → P (prefix ++ rest)
    go prefix [] h = subst P (sym (append-nil prefix)) h
    go prefix (x ∷ rest) h = subst P (append_assoc prefix (x ∷ []) rest) (go (prefix ++ x ∷ []) rest (more prefix x h))

pub filter_map-push : {A B : Type 0} (h : A → Option B) (xs : List A) (x : A) → filter_map h (xs ++ x ∷ []) ≡ filter_map h xs ++ option_to_list (h x)
filter_map-push {A} {B} h xs x = filter_map-append h xs (x ∷ []) ∙ ap (λ l. filter_map h xs ++ l) (go (h x))
  where
    go : (o : Option B) → cons_option o [] ≡ option_to_list o
    go None = refl
    go (Some y) = refl

-- a walk over es that shows what f makes of its items
module _ {A B : Type 0} (f : A → B) where
  -- one more item
  pub given_step : (es : List B) (ys : List A) (y : A) (it rest : List B) → es ≡ map f ys ++ it → it ≡ f y ∷ rest → es ≡ map f (ys ++ y ∷ []) ++ rest
  given_step es ys y it rest given step =
      given ∙ ap (λ l. map f ys ++ l) step ∙ sym (append_assoc (map f ys) (f y ∷ []) rest) ∙ ap (λ l. l ++ rest) (sym (map_push f ys y))

  module _ {C : Type 0} (h : B → Option C) (ys : List A) (y : A) where
    after : filter_map h (map f (ys ++ y ∷ [])) ≡ filter_map h (map f ys) ++ option_to_list (h (f y))
    after = ap (filter_map h) (map_push f ys y) ∙ filter_map-push h (map f ys) (f y)

    -- an item for which h gives something
    pub picked : (c : C) → h (f y) ≡ Some c → filter_map h (map f (ys ++ y ∷ [])) ≡ filter_map h (map f ys) ++ c ∷ []
    picked c is = after ∙ ap (λ o. filter_map h (map f ys) ++ option_to_list o) is

    -- an item for which h gives nothing
    pub passed_over : h (f y) ≡ None → filter_map h (map f (ys ++ y ∷ [])) ≡ filter_map h (map f ys)
    passed_over is = after ∙ ap (λ o. filter_map h (map f ys) ++ option_to_list o) is ∙ append-nil (filter_map h (map f ys))
