-- First occurrences of names, and the indices of names among names.
use Rattle.std.proofs.Common.{◌≡◌, ℕ, ◌<◌, Bool, true, false, ◌==◌, List, [], ◌∷◌, ◌++◌, map, length, get_or, filter_map, Option, Some, None, option_map, refl, sym, ap, subst, ◌∙◌, eqb-true, eq-eqb, ltb-true}
use Rattle.std.specs.List.{list_any, IsDistinct}
use Rattle.std.specs.Str.{bytes_eq}
use Rattle.std.specs.Cmp.Lexicographic.{bytes_decides, nat_list_eq_equiv}
use Rattle.std.proofs.lemmas.List.{map-append}
use Rattle.std.proofs.lemmas.List.Folds.{list_any-append, list_any_at}
use Rattle.std.proofs.lemmas.List.Sums.{passes_at_first}
use Rattle.std.proofs.lemmas.Bool.{or_left, or_right}
use Rattle.std.proofs.lemmas.Bool.Decides.{same_from_decides}
use Rattle.std.proofs.lemmas.Map.Keys.{IsDistinct-push}
use Rattle.lemmas.specs.Lists.{pushed, pushed_unless}
use Rattle.lemmas.proofs.Pushed.{filter_map-pushed, map-pushed_unless}
use Rattle.lemmas.proofs.Growing.{from_pushes}
use Rattle.lemmas.proofs.Positions.{found-position, position_or_len-append, position_or_len-distinct}
use Rattle.lemmas.proofs.Tests.{list_any-map}
use Rattle.cfgitems.specs.Syntax.{is_named, firsts, entry_name, index_of, indices_of}
use Rattle.cfgitems.specs.Building.{with_name, with_directive, with_entry, has_name}
use Rattle.cfgitems.proofs.Once.{each_once-push, any_once}

module _ {A : Type 0} (name_of : A → List ℕ) where
  pub firsts-push : (xs : List A) (x : A) → firsts name_of (xs ++ x ∷ []) ≡ pushed_unless (is_named name_of (name_of x) xs) (firsts name_of xs) x
  unfolding firsts
  firsts-push = each_once-push (λ x y. bytes_eq (name_of x) (name_of y))

  -- a name is known among the first occurrences exactly if it is known at all
  pub is_named-firsts : (name : List ℕ) (xs : List A) → is_named name_of name (firsts name_of xs) ≡ is_named name_of name xs
  unfolding firsts
  is_named-firsts name = any_once (λ x y. bytes_eq (name_of x) (name_of y)) (λ x. bytes_eq name (name_of x)) (λ x y e. ap (bytes_eq name) ((bytes_decides _ _).0 e))

  -- with an element at the end, if there is one and its name is new
  abbrev pub put_first : List A → Option A → List A
  put_first xs None = xs
  put_first xs (Some x) = pushed_unless (is_named name_of (name_of x) xs) xs x

  pub firsts-filter_map-push : {B : Type 0} (h : B → Option A) (ys : List B) (y : B) → firsts name_of (filter_map h (ys ++ y ∷ [])) ≡ put_first (firsts name_of (filter_map h ys)) (h y)
  firsts-filter_map-push h ys y = ap (firsts name_of) (filter_map-pushed h ys y) ∙ go (h y)
    where
      go : (o : Option A) → firsts name_of (pushed (filter_map h ys) o) ≡ put_first (firsts name_of (filter_map h ys)) o
      go None = refl
      go (Some x) = firsts-push (filter_map h ys) x
          ∙ ap (λ b. pushed_unless b (firsts name_of (filter_map h ys)) x) (sym (is_named-firsts (name_of x) (filter_map h ys)))

  pub has_name-names : (name : List ℕ) (xs : List A) → has_name name (map name_of xs) ≡ is_named name_of name xs
  has_name-names name xs = list_any-map (bytes_eq name) name_of xs

  pub names-put : (xs : List A) (o : Option A) → map name_of (put_first xs o) ≡ with_name (option_map name_of o) (map name_of xs)
  names-put xs None = refl
  names-put xs (Some x) =
      map-pushed_unless name_of (is_named name_of (name_of x) xs) xs x
      ∙ ap (λ b. pushed_unless b (map name_of xs) (name_of x)) (sym (has_name-names (name_of x) xs))

  -- as entries, each with a value
  pub entries-put : {B : Type 0} (value_of : A → B) (xs : List A) (o : Option A)
      → map (λ x. (name_of x, value_of x)) (put_first xs o) ≡ with_entry (option_map (λ x. (name_of x, value_of x)) o) (map (λ x. (name_of x, value_of x)) xs)
  entries-put value_of xs None = refl
  entries-put {B} value_of xs (Some x) =
      map-pushed_unless entry_of (is_named name_of (name_of x) xs) xs x
      ∙ ap (λ b. pushed_unless b (map entry_of xs) (entry_of x)) (sym (list_any-map (λ (entry : List ℕ × B). bytes_eq (name_of x) entry.0) entry_of xs))
    where
      entry_of : A → List ℕ × B
      entry_of x = (name_of x, value_of x)

  -- first occurrences differ from each other
  pub firsts-distinct : (xs : List A) → IsDistinct bytes_eq (map name_of (firsts name_of xs))
  unfolding firsts IsDistinct
  firsts-distinct = from_pushes (λ xs. IsDistinct bytes_eq (map name_of (firsts name_of xs))) tt more
    where
      more : (xs : List A) (x : A) → IsDistinct bytes_eq (map name_of (firsts name_of xs)) → IsDistinct bytes_eq (map name_of (firsts name_of (xs ++ x ∷ [])))
      more xs x before = subst (λ ys. IsDistinct bytes_eq (map name_of ys)) (sym (firsts-push xs x)) (go (is_named name_of (name_of x) xs) refl)
        where
          go : (known : Bool) → is_named name_of (name_of x) xs ≡ known → IsDistinct bytes_eq (map name_of (pushed_unless known (firsts name_of xs) x))
          go true e = before
          go false e =
              subst (IsDistinct bytes_eq) (sym (map-append name_of (firsts name_of xs) (x ∷ [])))
              (IsDistinct-push nat_list_eq_equiv (map name_of (firsts name_of xs)) (name_of x) before (has_name-names (name_of x) (firsts name_of xs) ∙ is_named-firsts (name_of x) xs ∙ e))

-- of entries, each under its name
pub put_first-entry : {V : Type 0} (entries : List (List ℕ × V)) (o : Option (List ℕ × V)) → put_first entry_name entries o ≡ with_entry o entries
put_first-entry entries None = refl
put_first-entry entries (Some entry) = refl

-- Indices of names.

-- names that are all among others
abbrev pub AreAmong : List (List ℕ) → List (List ℕ) → Type 0
AreAmong some all = (name : List ℕ) → has_name name some ≡ true → has_name name all ≡ true

map-there : {B : Type 0} (f g : List ℕ → B) (names : List (List ℕ)) → ((name : List ℕ) → has_name name names ≡ true → f name ≡ g name) → map f names ≡ map g names
map-there f g [] same = refl
map-there f g (name ∷ names) same = λ i.
    same name (or_left _ _ (nat_list_eq_equiv.refl name)) i ∷ map-there f g names (λ n h. same n (or_right _ _ h)) i

pub index_of-within : (name : List ℕ) (names : List (List ℕ)) → has_name name names ≡ true → index_of name names < length names
index_of-within name names there = ltb-true _ _ (found-position (bytes_eq name) names ∙ there)

get_or-index_of : (name : List ℕ) (names : List (List ℕ)) → has_name name names ≡ true → name ≡ get_or names (index_of name names) []
get_or-index_of name names h = (bytes_decides _ _).0 (passes_at_first (bytes_eq name) names [] (index_of-within name names h))

-- names in a list have the same index exactly if they are the same
same_index : (name other : List ℕ) (names : List (List ℕ)) → has_name name names ≡ true → has_name other names ≡ true → (index_of name names == index_of other names) ≡ bytes_eq name other
same_index name other names here there =
    same_from_decides _ _ (
      λ e. get_or-index_of name names here ∙ ap (λ i. get_or names i []) (eqb-true _ _ e) ∙ sym (get_or-index_of other names there),
      λ e. eq-eqb _ _ (ap (λ n. index_of n names) e),
    )
    (bytes_decides name other)

-- among names that differ from each other, a name has only one index
pub same_offset : (name : List ℕ) (all : List (List ℕ)) → IsDistinct bytes_eq all → has_name name all ≡ true
    → (k : ℕ) → k < length all → bytes_eq (get_or all k []) name ≡ (k == index_of name all)
same_offset name all distinct there k within =
    let here : has_name (get_or all k []) all ≡ true = list_any_at (bytes_eq (get_or all k [])) all k [] within (nat_list_eq_equiv.refl (get_or all k [])) in
    sym (same_index (get_or all k []) name all here there) ∙ ap (λ n. n == index_of name all) (position_or_len-distinct nat_list_eq_equiv all k [] distinct within)

pub put_there : (name : List ℕ) (all : List (List ℕ)) → has_name name (with_name (Some name) all) ≡ true
put_there name all = go (has_name name all) refl
  where
    go : (known : Bool) → has_name name all ≡ known → has_name name (pushed_unless known all name) ≡ true
    go true e = e
    go false e = list_any-append (bytes_eq name) all (name ∷ []) ∙ or_right _ _ (or_left _ _ (nat_list_eq_equiv.refl name))

pub put_grows : (o : Option (List ℕ)) (all : List (List ℕ)) → AreAmong all (with_name o all)
put_grows None all name there = there
put_grows (Some new) all name there = go (has_name new all)
  where
    go : (known : Bool) → has_name name (pushed_unless known all new) ≡ true
    go true = there
    go false = list_any-append (bytes_eq name) all (new ∷ []) ∙ or_left _ _ there

-- one more name leaves the indices of the others unchanged
pub indices-stay : (some all : List (List ℕ)) → AreAmong some all → (o : Option (List ℕ)) → indices_of some (with_name o all) ≡ indices_of some all
indices-stay some all among None = refl
indices-stay some all among (Some name) = go (has_name name all)
  where
    go : (known : Bool) → indices_of some (pushed_unless known all name) ≡ indices_of some all
    go true = refl
    go false = map-there _ _ some (λ n h. position_or_len-append (bytes_eq n) all (name ∷ []) (among n h))

-- the index of a name is among the indices of names exactly if the name is among the names
pub noted : (some all : List (List ℕ)) → AreAmong some all → (name : List ℕ) → has_name name all ≡ true → list_any (λ j. index_of name all == j) (indices_of some all) ≡ has_name name some
noted some all among name there =
    list_any-map (λ j. index_of name all == j) (λ n. index_of n all) some ∙ sym (list_any-map (λ b. b) at_offset some)
    ∙ ap (list_any (λ b. b)) (map-there at_offset (bytes_eq name) some (λ other h. same_index name other all there (among other h)))
    ∙ list_any-map (λ b. b) (bytes_eq name) some
  where
    at_offset : List ℕ → Bool
    at_offset other = index_of name all == index_of other all

-- the indices of names, with that of one more
pub indices-put : (some all : List (List ℕ)) → AreAmong some all → (o : Option (List ℕ)) → ((name : List ℕ) → o ≡ Some name → has_name name all ≡ true)
    → indices_of (with_name o some) all ≡ with_directive o all (indices_of some all)
indices-put some all among None there = refl
indices-put some all among (Some name) there =
    map-pushed_unless (λ n. index_of n all) (has_name name some) some name
    ∙ ap (λ b. pushed_unless b (indices_of some all) (index_of name all)) (sym (noted some all among name (there name refl)))
