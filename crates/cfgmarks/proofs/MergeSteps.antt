-- Merging one key after another merges all keys.
use Rattle.std.proofs.Common.{◌≡◌, true, false, cond, if◌then◌else◌, Option, None, Some, is_some, List, [], ◌∷◌, ◌++◌, refl, sym, ap, ◌∙◌, subst, append_assoc}
use Rattle.std.specs.declared.cmp.Ordering.{Ordering}
use Rattle.std.specs.declared.cmp.Ordering.TheVariants.{Equal}
use Rattle.std.specs.Ordering.{is_eq, is_lt}
use Rattle.std.specs.Cmp.{IsTotalOrder, eq_by_cmp_equiv, tied_itself, Equal-is}
use Rattle.std.specs.List.Sorted.{IsStrictlySortedBy}
use Rattle.std.specs.Map.{keys_of, lookup, lookup_key}
use Rattle.std.specs.BTreeMap.{is_at}
use Rattle.cfgmarks.specs.declared.markmap.behavior.MergeBehavior.{MergeBehavior}
use Rattle.cfgmarks.specs.declared.markmap.marked.Marked.{Marked}
use Rattle.cfgmarks.specs.declared.markmap.fault.MergeFault.{MergeFault}
use Rattle.cfgmarks.specs.Marks.{Marks, entry_at, stored_at}
use Rattle.std.specs.Option.{ForSome}
use Rattle.cfgmarks.specs.Merging.{expected, CallableOnExpected, MergedAt}
use Rattle.cfgmarks.specs.MergeFaults.{MergesKey, IsFaultAt}
use Rattle.lemmas.proofs.Lookups.{found-lookup_key, lookup_after_none, lookup_before_none}
use Rattle.lemmas.proofs.Entries.{lookup_congr, lookup_before, none_before, found_here}
use Rattle.cfgmarks.proofs.StoredKeys.{lookup_key-append, option_or_absent}

-- what merging makes of a key: the lemmas below rest only on what it makes of a key that theirs doesn't have
abbrev pub MakesOf : {U V : Type 0} → (U → V → Type 0) → MergeBehavior → Option (Marked V) → Option (Marked U) → Option (Marked V) → Type 0
MakesOf converts default mine theirs now = MergedAt converts default mine theirs now

module _ {K U V : Type 0} (cmp : K → K → Ordering) (total : IsTotalOrder cmp) (converts : U → V → Type 0) where
  -- the entries so far are merged
  abbrev pub MergedSoFar : Marks K V → List (K × Marked U) → Marks K V → Type 0
  MergedSoFar mine done now = (now.behavior ≡ mine.behavior)
      × ((q : K) → MakesOf converts mine.behavior (entry_at cmp mine q) (lookup (is_at (cmp q)) done) (entry_at cmp now q))

  -- theirs are merged at the keys below k, and all other keys are mine
  abbrev pub MergedBelow : Marks K V → Marks K U → K → Marks K V → Type 0
  MergedBelow mine theirs k now = (now.behavior ≡ mine.behavior)
      × ((q : K) → MakesOf converts mine.behavior (entry_at cmp mine q) (if is_lt (cmp q k) then entry_at cmp theirs q else None) (entry_at cmp now q))

  -- merging stops at the fault, as `StopsAt` says
  abbrev pub StopsBelow : {E : Type 0} → (U → E → Type 0) → Marks K V → Marks K U → MergeFault K V E → Marks K V → Type 0
  StopsBelow refuses mine theirs fault now = (k : K) × (x : Marked U) × (stored_at cmp theirs k ≡ Some k) × (entry_at cmp theirs k ≡ Some x)
      × IsFaultAt converts refuses mine.behavior k (entry_at cmp mine k) x fault × MergedBelow mine theirs k now

  moved : {b c : MergeBehavior} {m n : Option (Marked V)} {s t : Option (Marked U)} {x y : Option (Marked V)} → b ≡ c → m ≡ n → s ≡ t → x ≡ y → MakesOf converts b m s x → MakesOf converts c n t y
  moved {b} {c} {m} {n} {s} {t} {x} {y} e f h i merged =
      subst (λ c. MakesOf converts c n t y) e (subst (λ n. MakesOf converts b n t y) f (subst (λ t. MakesOf converts b m t y) h (subst (MakesOf converts b m s) i merged)))

  -- the walk over theirs is at k, and the entries in done are merged
  pub record Reached (mine now : Marks K V) (theirs : Marks K U) (done rest : List (K × Marked U)) (k : K) (x : Marked U) : Type 0 where
    pub given : theirs.entries ≡ done ++ (k, x) ∷ rest
    pub ordered : IsStrictlySortedBy cmp (keys_of (done ++ (k, x) ∷ rest))
    pub so_far : MergedSoFar mine done now

  pub reached : {mine now : Marks K V} {theirs : Marks K U} {done left rest : List (K × Marked U)} {k : K} {x : Marked U} → theirs.entries ≡ done ++ left → left ≡ (k, x) ∷ rest
      → IsStrictlySortedBy cmp (keys_of theirs.entries) → MergedSoFar mine done now → Reached mine now theirs done rest k x
  reached {theirs = theirs} {done = done} given next ordered so_far =
      let here : theirs.entries ≡ done ++ _ = given ∙ ap (λ es. done ++ es) next in
      record { given = here; ordered = subst (λ es. IsStrictlySortedBy cmp (keys_of es)) here ordered; so_far = so_far }

  module _ {mine now : Marks K V} {theirs : Marks K U} {done rest : List (K × Marked U)} {k : K} {x : Marked U} (at_key : Reached mine now theirs done rest k x) where
    -- a key that isn't reached yet has my entry
    still_mine : entry_at cmp now k ≡ entry_at cmp mine k
    still_mine = subst (λ t. MakesOf converts mine.behavior (entry_at cmp mine k) t (entry_at cmp now k)) (none_before cmp total done rest k x at_key.ordered) (at_key.so_far.1 k)

    -- the walk's entry is the key's
    theirs_here : entry_at cmp theirs k ≡ Some x
    theirs_here = ap (lookup (is_at (cmp k))) at_key.given ∙ found_here cmp total done rest k x at_key.ordered

    -- and the key is stored there
    stored_here : stored_at cmp theirs k ≡ Some k
    stored_here =
        let absent : is_some (lookup_key (is_at (cmp k)) done) ≡ false = found-lookup_key (is_at (cmp k)) done ∙ ap is_some (none_before cmp total done rest k x at_key.ordered) in
        let here : lookup_key (is_at (cmp k)) ((k, x) ∷ rest) ≡ Some k = ap (λ b. cond b (Some k) (lookup_key (is_at (cmp k)) rest)) (ap is_eq (tied_itself total k)) in
        ap (lookup_key (is_at (cmp k))) at_key.given ∙ lookup_key-append (is_at (cmp k)) done ((k, x) ∷ rest) ∙ option_or_absent _ _ absent ∙ here

    pub one_more : theirs.entries ≡ (done ++ (k, x) ∷ []) ++ rest
    one_more = at_key.given ∙ sym (append_assoc done ((k, x) ∷ []) rest)

    pub merged_step : (after : Marks K V) → MergesKey cmp converts k x now after → MergedSoFar mine (done ++ (k, x) ∷ []) after
    merged_step after step = (
      step.0 ∙ at_key.so_far.0,
      λ q.
          elim (is_at (cmp k) q) as (λ b. is_at (cmp k) q ≡ b → MakesOf converts mine.behavior (entry_at cmp mine q) (lookup (is_at (cmp q)) (done ++ (k, x) ∷ [])) (entry_at cmp after q)) [
            | true ↦ λ is.
                let same : cmp k q ≡ Equal = (Equal-is (cmp k q)).0 is in
                let back : is_at (cmp q) k ≡ true = (eq_by_cmp_equiv total).symm q k ∙ is in
                let none : lookup (is_at (cmp q)) done ≡ None = sym (lookup_congr cmp total done k q same) ∙ none_before cmp total done rest k x at_key.ordered in
                let here : Some x ≡ lookup (is_at (cmp q)) (done ++ (k, x) ∷ []) = sym (lookup_after_none (is_at (cmp q)) done ((k, x) ∷ []) none ∙ ap (λ b. cond b (Some x) None) back) in
                moved at_key.so_far.0 (still_mine ∙ lookup_congr cmp total mine.entries k q same) here (lookup_congr cmp total after.entries k q same) step.1
            | false ↦ λ is.
                let back : is_at (cmp q) k ≡ false = (eq_by_cmp_equiv total).symm q k ∙ is in
                let there : lookup (is_at (cmp q)) done ≡ lookup (is_at (cmp q)) (done ++ (k, x) ∷ []) = sym (lookup_before_none (is_at (cmp q)) done ((k, x) ∷ []) (ap (λ b. cond b (Some x) None) back)) in
                moved refl refl there (sym (step.2 q is)) (at_key.so_far.1 q)
          ] refl,
    )

    merged_below : MergedBelow mine theirs k now
    merged_below = (
      at_key.so_far.0,
      λ q.
          let below : lookup (is_at (cmp q)) done ≡ (if is_lt (cmp q k) then entry_at cmp theirs q else None) =
          lookup_before cmp total done rest k x at_key.ordered q ∙ ap (λ es. if is_lt (cmp q k) then lookup (is_at (cmp q)) es else None) (sym at_key.given) in
          moved refl refl below refl (at_key.so_far.1 q),
    )

    pub stops_at : {E : Type 0} (refuses : U → E → Type 0) (fault : MergeFault K V E) (after : Marks K V) → after ≡ now
        → IsFaultAt converts refuses now.behavior k (entry_at cmp now k) x fault → StopsBelow refuses mine theirs fault after
    stops_at refuses fault after same fault_here =
        subst (StopsBelow refuses mine theirs fault) (sym same) (
          k,
          x,
          stored_here,
          theirs_here,
          subst (λ b. IsFaultAt converts refuses b k (entry_at cmp mine k) x fault) at_key.so_far.0
              (subst (λ m. IsFaultAt converts refuses now.behavior k m x fault) still_mine fault_here),
          merged_below,
        )

    -- the value at the key may be converted
    pub expected_callable : {may_convert : U → Type 0} → CallableOnExpected cmp may_convert mine theirs → ForSome (expected now.behavior (entry_at cmp now k) x) may_convert
    expected_callable callable =
        let same : expected now.behavior (entry_at cmp now k) x ≡ expected mine.behavior (entry_at cmp mine k) x =
        ap (λ b. expected b (entry_at cmp now k) x) at_key.so_far.0 ∙ ap (λ o. expected mine.behavior o x) still_mine in
        λ u wants. callable k x theirs_here u (sym same ∙ wants)
