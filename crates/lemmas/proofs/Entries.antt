-- Entries in the order of their keys, as a `BTreeMap` keeps them.
use Rattle.std.proofs.Common.{◌≡◌, true, false, cond, if◌then◌else◌, Some, None, IsSome, List, [], ◌∷◌, ◌++◌, refl, sym, ap, ◌∙◌, subst}
use Rattle.std.specs.declared.cmp.Ordering.{Ordering}
use Rattle.std.specs.declared.cmp.Ordering.TheVariants.{Less, Equal, Greater}
use Rattle.std.specs.Ordering.{is_eq, is_lt, match_ordering}
use Rattle.std.specs.Cmp.{IsTotalOrder, tied_itself, tied_back, eq_by_cmp_equiv}
use Rattle.std.specs.List.{AllByRecursion}
use Rattle.std.specs.List.Sorted.{IsStrictlySortedBy}
use Rattle.std.specs.Map.{keys_of, lookup, lookup_key, set_value}
use Rattle.std.specs.BTreeMap.{insert_entry, is_at}
use Rattle.lemmas.proofs.Lookups.{key_at, lookup_after_none}

module _ {K X : Type 0} (cmp : K → K → Ordering) where
  -- a key below all others isn't among them
  pub none_above : (es : List (K × X)) (k : K) → AllByRecursion (λ y. cmp k y ≡ Less) (keys_of es) → lookup (is_at (cmp k)) es ≡ None
  none_above [] k above = refl
  none_above (e ∷ es) k above = rw above.0 (none_above es k above.1)

module _ {K : Type 0} (cmp : K → K → Ordering) (total : IsTotalOrder cmp) where
  pub below_all : (ys : List K) (k x : K) → cmp k x ≡ Less → AllByRecursion (λ y. cmp x y ≡ Less) ys → AllByRecursion (λ y. cmp k y ≡ Less) ys
  below_all [] k x below above = tt
  below_all (y ∷ ys) k x below above = (total.trans k x y below above.0, below_all ys k x below above.1)

module _ {K X : Type 0} (cmp : K → K → Ordering) (total : IsTotalOrder cmp) where
  -- what was put at a key is found there
  pub lookup_inserted : (es : List (K × X)) (k : K) (w : X) → lookup (is_at (cmp k)) (insert_entry cmp es k w) ≡ Some w
  lookup_inserted [] k w = rw (tied_itself total k)
  lookup_inserted (e ∷ es) k w =
      elim (cmp k e.0) as (λ r. cmp k e.0 ≡ r → lookup (is_at (cmp k)) (match_ordering r ((k, w) ∷ e ∷ es) ((e.0, w) ∷ es) (e ∷ insert_entry cmp es k w)) ≡ Some w) [
        | Less ↦ λ is. rw (tied_itself total k)
        | Equal ↦ λ is. rw is
        | Greater ↦ λ is. rw is (lookup_inserted es k w)
      ] refl

  -- equal keys find the same
  pub lookup_congr : (es : List (K × X)) (k q : K) → cmp k q ≡ Equal → lookup (is_at (cmp k)) es ≡ lookup (is_at (cmp q)) es
  lookup_congr [] k q same = refl
  lookup_congr (e ∷ es) k q same = rw (total.congr k q e.0 same, lookup_congr es k q same)

  -- a second write at an equal key replaces the first
  pub inserted_twice : (es : List (K × X)) (k q : K) (w x : X) → cmp k q ≡ Equal → insert_entry cmp (insert_entry cmp es k w) q x ≡ insert_entry cmp es k x
  inserted_twice [] k q w x same = rw (tied_back total k q same)
  inserted_twice (e ∷ es) k q w x same =
      elim (cmp k e.0) as (λ r. cmp k e.0 ≡ r → insert_entry cmp (match_ordering r ((k, w) ∷ e ∷ es) ((e.0, w) ∷ es) (e ∷ insert_entry cmp es k w)) q x
      ≡ match_ordering r ((k, x) ∷ e ∷ es) ((e.0, x) ∷ es) (e ∷ insert_entry cmp es k x)) [
        | Less ↦ λ is. rw (tied_back total k q same)
        | Equal ↦ λ is. rw (sym (total.congr k q e.0 same), is)
        | Greater ↦ λ is. rw (sym (total.congr k q e.0 same), is) (ap (λ rest. e ∷ rest) (inserted_twice es k q w x same))
      ] refl

  -- writing at a stored key is the same as inserting at it
  pub set_value_inserts : (es : List (K × X)) (k : K) (w : X) → IsStrictlySortedBy cmp (keys_of es) → IsSome (lookup (is_at (cmp k)) es)
      → set_value (is_at (cmp k)) es w ≡ insert_entry cmp es k w
  unfolding IsStrictlySortedBy
  set_value_inserts [] k w ordered stored = cc
  set_value_inserts (e ∷ es) k w ordered stored =
      elim (cmp k e.0) as (λ r. cmp k e.0 ≡ r → IsSome (cond (is_eq r) (Some e.1) (lookup (is_at (cmp k)) es))
      → cond (is_eq r) ((e.0, w) ∷ es) (e ∷ set_value (is_at (cmp k)) es w) ≡ match_ordering r ((k, w) ∷ e ∷ es) ((e.0, w) ∷ es) (e ∷ insert_entry cmp es k w)) [
        | Less ↦ λ is found. let no : false ≡ true = subst IsSome (none_above cmp es k (below_all cmp total (keys_of es) k e.0 is ordered.0)) found in cc
        | Equal ↦ λ is found. refl
        | Greater ↦ λ is found. ap (λ rest. e ∷ rest) (set_value_inserts es k w ordered.1 found)
      ] refl stored

  -- among ordered entries, those before k are found at the keys below k
  pub lookup_before : (es fs : List (K × X)) (k : K) (x : X) → IsStrictlySortedBy cmp (keys_of (es ++ (k, x) ∷ fs)) → (q : K)
      → lookup (is_at (cmp q)) es ≡ (if is_lt (cmp q k) then lookup (is_at (cmp q)) (es ++ (k, x) ∷ fs) else None)
  unfolding IsStrictlySortedBy
  lookup_before [] fs k x ordered q =
      elim (cmp q k) as (λ r. cmp q k ≡ r → None ≡ (if is_lt r then cond (is_eq r) (Some x) (lookup (is_at (cmp q)) fs) else None)) [
        | Less ↦ λ is. sym (none_above cmp fs q (below_all cmp total (keys_of fs) q k is ordered.0))
        | Equal ↦ λ is. refl
        | Greater ↦ λ is. refl
      ] refl
  lookup_before (e ∷ es) fs k x ordered q =
      let below : cmp e.0 k ≡ Less = key_at (λ y. cmp e.0 y ≡ Less) es fs (k, x) ordered.0 in
      elim (cmp q e.0) as (λ r. cmp q e.0 ≡ r → cond (is_eq r) (Some e.1) (lookup (is_at (cmp q)) es)
      ≡ (if is_lt (cmp q k) then cond (is_eq r) (Some e.1) (lookup (is_at (cmp q)) (es ++ (k, x) ∷ fs)) else None)) [
        | Less ↦ λ is. lookup_before es fs k x ordered.1 q
        | Equal ↦ λ is. rw (total.congr q e.0 k is, below)
        | Greater ↦ λ is. lookup_before es fs k x ordered.1 q
      ] refl

  pub none_before : (es fs : List (K × X)) (k : K) (x : X) → IsStrictlySortedBy cmp (keys_of (es ++ (k, x) ∷ fs)) → lookup (is_at (cmp k)) es ≡ None
  none_before es fs k x ordered = rw (lookup_before es fs k x ordered k, tied_itself total k)

  pub found_here : (es fs : List (K × X)) (k : K) (x : X) → IsStrictlySortedBy cmp (keys_of (es ++ (k, x) ∷ fs)) → lookup (is_at (cmp k)) (es ++ (k, x) ∷ fs) ≡ Some x
  found_here es fs k x ordered = lookup_after_none (is_at (cmp k)) es ((k, x) ∷ fs) (none_before es fs k x ordered) ∙ rw (tied_itself total k)

  -- an insertion stores its key if no stored key is equal to it
  pub lookup_key_inserted : (es : List (K × X)) (k : K) (w : X) → lookup (is_at (cmp k)) es ≡ None → lookup_key (is_at (cmp k)) (insert_entry cmp es k w) ≡ Some k
  lookup_key_inserted [] k w none = rw (tied_itself total k)
  lookup_key_inserted (e ∷ es) k w none =
      elim (cmp k e.0) as (λ r. cmp k e.0 ≡ r → cond (is_eq r) (Some e.1) (lookup (is_at (cmp k)) es) ≡ None
      → lookup_key (is_at (cmp k)) (match_ordering r ((k, w) ∷ e ∷ es) ((e.0, w) ∷ es) (e ∷ insert_entry cmp es k w)) ≡ Some k) [
        | Less ↦ λ is none. rw (tied_itself total k)
        | Equal ↦ λ is none. cc
        | Greater ↦ λ is none. rw is (lookup_key_inserted es k w none)
      ] refl none

  pub lookup_key_inserted_other : (es : List (K × X)) (k q : K) (w : X) → is_at (cmp k) q ≡ false → lookup_key (is_at (cmp q)) (insert_entry cmp es k w) ≡ lookup_key (is_at (cmp q)) es
  lookup_key_inserted_other [] k q w apart = rw ((eq_by_cmp_equiv total).symm q k, apart)
  lookup_key_inserted_other (e ∷ es) k q w apart =
      let back : is_at (cmp q) k ≡ false = (eq_by_cmp_equiv total).symm q k ∙ apart in
      elim (cmp k e.0) as (λ r. cmp k e.0 ≡ r → lookup_key (is_at (cmp q)) (match_ordering r ((k, w) ∷ e ∷ es) ((e.0, w) ∷ es) (e ∷ insert_entry cmp es k w)) ≡ lookup_key (is_at (cmp q)) (e ∷ es)) [
        | Less ↦ λ is. rw back
        | Equal ↦ λ is. refl
        | Greater ↦ λ is. ap (cond (is_at (cmp q) e.0) (Some e.0)) (lookup_key_inserted_other es k q w apart)
      ] refl
