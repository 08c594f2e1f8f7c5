use Rattle.std.proofs.Common.{◌≡◌, ◌≢◌, None, Some, Option, List, [], ◌∷◌, ◌++◌, map, filter_map, Result, Ok, Err, OnErr, ap, sym, ◌∙◌}
use Rattle.std.specs.Option.{option_map}
use Rattle.std.specs.List.{cons_option}
use Rattle.std.specs.List.Sorted.{IsStrictlySortedBy}
use Rattle.std.specs.List.{AllByRecursion}
use Rattle.std.specs.Map.{keys_of}
use Rattle.std.specs.declared.cmp.Ordering.{Ordering}
use Rattle.std.specs.declared.cmp.Ordering.TheVariants.{Less}
use Rattle.cfgmarks.specs.declared.markmap.marked.Marked.{Marked}
use Rattle.std.proofs.lemmas.List.Elements.{filter_map-append}
use Rattle.lemmas.proofs.Growing.{given_step, picked}
use Rattle.cfgmarks.specs.Marks.{held_among}

-- the keys that hold a value are in ascending order, as all keys are
module _ {K V : Type 0} (cmp : K → K → Ordering) where
  above_held : (k : K) (es : List (K × Marked V)) → AllByRecursion (λ y. cmp k y ≡ Less) (keys_of es) → AllByRecursion (λ y. cmp k y ≡ Less) (keys_of (held_among es))
  above_held k [] above = tt
  above_held k (e ∷ es) above =
      elim e.1.value as (λ o. AllByRecursion (λ y. cmp k y ≡ Less) (keys_of (cons_option (option_map (λ v. (e.0, v)) o) (held_among es)))) [
        | None ↦ above_held k es above.1
        | Some v ↦ (above.0, above_held k es above.1)
      ]

  pub held_ordered : (es : List (K × Marked V)) → IsStrictlySortedBy cmp (keys_of es) → IsStrictlySortedBy cmp (keys_of (held_among es))
  unfolding IsStrictlySortedBy
  held_ordered [] ordered = tt
  held_ordered (e ∷ es) ordered =
      elim e.1.value as (λ o. IsStrictlySortedBy cmp (keys_of (cons_option (option_map (λ v. (e.0, v)) o) (held_among es)))) [
        | None ↦ held_ordered es ordered.1
        | Some v ↦ (above_held e.0 es ordered.0, held_ordered es ordered.1)
      ]

-- if a walk over es comes to an item for which h gives something, h gives something for es
pub found_one : {A B C : Type 0} (f : A → B) (h : B → Option C) (es : List B) (ys : List A) (y : A) (it rest : List B) (c : C) → es ≡ map f ys ++ it → it ≡ f y ∷ rest → h (f y) ≡ Some c
    → filter_map h es ≢ []
found_one f h es ys y it rest c given step is none =
    let here : filter_map h es ≡ (filter_map h (map f ys) ++ c ∷ []) ++ filter_map h rest =
    ap (filter_map h) (given_step f es ys y it rest given step) ∙ filter_map-append h _ rest ∙ ap (λ cs. cs ++ filter_map h rest) (picked f h ys y c is) in
    not_empty (filter_map h (map f ys)) c (filter_map h rest) (sym here ∙ none)
  where
    not_empty : {C : Type 0} (prefix : List C) (c : C) (back : List C) → (prefix ++ c ∷ []) ++ back ≢ []
    not_empty [] c back none = cc
    not_empty (d ∷ prefix) c back none = cc

-- a fact that always holds, after an error too
pub on_err : {T E P : Type 0} (r : Result T E) → P → OnErr r P
on_err (Ok x) h = tt
on_err (Err e) h = h
