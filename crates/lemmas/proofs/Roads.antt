-- A `for` over an iterator that gives a known list: what was yielded so far, the item of this turn, and those after it.
use Rattle.std.proofs.Common.{◌≡◌, ℕ, ◌+◌, ◌<◌, false, List, [], ◌∷◌, ◌++◌, length, map, drop, get_or, All, Option, Some, refl, sym, ap, subst, ◌∙◌, append_assoc, arith}
use Rattle.std.specs.Iterator.{AlwaysYields, Yields}
use Rattle.std.specs.List.{list_any, IsDistinct}
use Rattle.std.specs.Str.{bytes_eq}
use Rattle.std.specs.Cmp.Lexicographic.{nat_list_eq_equiv}
use Rattle.std.proofs.lemmas.Iterator.{YieldsList}
use Rattle.std.proofs.lemmas.Iterator.Consumers.{YieldsList-so_far, YieldsList-turn}
use Rattle.std.proofs.lemmas.List.{map-append, take-append-drop, map_push, drop_more, get_or_append_left, get_or_at, length-append}
use Rattle.std.proofs.lemmas.List.Folds.{list_any_none}
use Rattle.std.proofs.lemmas.Map.Keys.{apart_from_distinct}

-- the same iterator, if f is shown of each item
always : {S A B C : Type 0} (steps : S → Option A → S → Type 0) (v : A → B) (f : B → C) (ys : List B) (s : S) → AlwaysYields steps v s ys → AlwaysYields steps (λ x. f (v x)) s (map f ys)
always steps v f [] s runs = runs
always steps v f (y ∷ ys) s runs = (runs.0, λ x j step. let more = runs.1 x j step in (ap f more.0, always steps v f ys j more.1))

pub shown : {S A B C : Type 0} {steps : S → Option A → S → Type 0} {v : A → B} {s : S} (f : B → C) (ys : List B) (zs : List C) → map f ys ≡ zs → YieldsList steps v s ys
    → YieldsList steps (λ x. f (v x)) s zs
shown {steps} {v} {s} f ys zs same road = record { runs = subst (AlwaysYields steps (λ x. f (v x)) s) same (always steps v f ys s road.runs) }

-- one more element, and what f makes of it
pub pushed_shown : {A B : Type 0} (f : A → B) (xs ys : List A) (x : A) → ys ≡ xs ++ x ∷ [] → map f ys ≡ map f xs ++ f x ∷ []
pushed_shown f xs ys x is = ap (map f) is ∙ map_push f xs x

pub more_shown : {A B C : Type 0} (f : B → C) (v : A → B) (xs : List A) (x : A) → map f (map v xs) ++ f (v x) ∷ [] ≡ map f (map v (xs ++ x ∷ []))
more_shown f v xs x = sym (ap (map f) (map_push v xs x) ∙ map_push f (map v xs) (v x))

-- among names that differ from each other, one is none of those before it
apart : (prefix : List (List ℕ)) (name : List ℕ) (after : List (List ℕ)) → IsDistinct bytes_eq (prefix ++ name ∷ after) → list_any (bytes_eq name) prefix ≡ false
apart prefix name after distinct = list_any_none (bytes_eq name) prefix (λ k d within.
    let names = prefix ++ name ∷ after in
    let at : length prefix < length names = omega (arith, length-append prefix (name ∷ after)) in
    nat_list_eq_equiv.symm name (get_or prefix k d)
    ∙ ap (λ other. bytes_eq other name) (sym (get_or_append_left prefix (name ∷ after) d k within))
    ∙ ap (bytes_eq (get_or names k d)) (sym (get_or_at prefix name after d (length prefix) refl))
    ∙ apart_from_distinct bytes_eq names k (length prefix) d distinct within at)

module _ {S A B : Type 0} {steps : S → Option A → S → Type 0} {v : A → B} {s : S} {all : List B} (road : YieldsList steps v s all)
    (xs : List A) (t : S) (yielded : Yields steps s xs t) (r : Option A) (u : S) (x : A) (is : r ≡ Some x) (step : steps t r u) where
  -- what holds of all holds of this item
  pub item_holds : (P : B → Type 0) → All P all → P (v x)
  item_holds P holds = let here = YieldsList-turn road xs t yielded r u x is step in subst P (sym here.1) (holds (length xs) (v x) here.0)

  after : List B
  after = drop (length xs + 1) all

  split : all ≡ map v xs ++ v x ∷ after
  unfolding after
  split =
      let here = YieldsList-turn road xs t yielded r u x is step in
      let rest : drop (length xs) all ≡ v x ∷ after = drop_more all (length xs) (v x) here.0 ∙ ap (λ y. y ∷ after) (sym here.1) in
      sym (take-append-drop (length xs) all) ∙ (λ i. sym (YieldsList-so_far road xs t yielded) i ++ rest i)

  -- if all names differ from each other, this item has none of those before it
  pub name_is_new : (prefix : List (List ℕ)) (name : B → List ℕ) → IsDistinct bytes_eq (prefix ++ map name all)
      → list_any (bytes_eq (name (v x))) (prefix ++ map name (map v xs)) ≡ false
  name_is_new prefix name distinct =
      let before = map name (map v xs) in
      let names : prefix ++ map name all ≡ prefix ++ before ++ name (v x) ∷ map name after =
      ap (λ ys. prefix ++ map name ys) split ∙ ap (λ ns. prefix ++ ns) (map-append name (map v xs) (v x ∷ after)) ∙ sym (append_assoc prefix before (name (v x) ∷ map name after)) in
      apart (prefix ++ before) (name (v x)) (map name after) (subst (IsDistinct bytes_eq) names distinct)
