-- Which keys a map of marks stores after merging.
use Rattle.std.proofs.Common.{◌≡◌, Bool, true, false, cond, if◌then◌else◌, Option, None, Some, IsSome, is_some, List, [], ◌∷◌, ◌++◌, refl, sym, ap, ◌∙◌, subst}
use Rattle.std.specs.declared.cmp.Ordering.{Ordering}
use Rattle.std.specs.Cmp.{IsTotalOrder, eq_by_cmp_equiv}
use Rattle.std.specs.Map.{keys_of, lookup, lookup_key}
use Rattle.std.specs.BTreeMap.{insert_entry, is_at}
use Rattle.std.specs.Option.{option_or}
use Rattle.cfgmarks.specs.declared.markmap.marked.Marked.{Marked}
use Rattle.cfgmarks.specs.Marks.{Marks, stored_at}
use Rattle.lemmas.proofs.Lookups.{found-lookup_key, lookup_key_congr, lookup_key_by_keys}
use Rattle.lemmas.proofs.Entries.{lookup_key_inserted, lookup_key_inserted_other}
use Rattle.cfgmarks.specs.Merging.{KeepsStored}
use Rattle.cfgmarks.specs.MergeFaults.{StoresKey}

module _ {X : Type 0} where
  pub option_or_assoc : (a b c : Option X) → option_or (option_or a b) c ≡ option_or a (option_or b c)
  option_or_assoc (Some x) b c = refl
  option_or_assoc None b c = refl

  pub option_or_none : (a : Option X) → option_or a None ≡ a
  option_or_none (Some x) = refl
  option_or_none None = refl

  pub option_or_some : (a b : Option X) → IsSome a → option_or a b ≡ a
  option_or_some (Some x) b is = refl
  option_or_some None b is = cc

  pub option_or_absent : (a b : Option X) → is_some a ≡ false → option_or a b ≡ b
  option_or_absent (Some x) b is = cc
  option_or_absent None b is = refl

  -- what was found in a part is found in the whole
  pub option_or_extends : (s mine part more : Option X) → s ≡ option_or mine part → IsSome s → s ≡ option_or mine (option_or part more)
  option_or_extends s (Some x) part more is some = is
  option_or_extends s None part more is some = is ∙ sym (option_or_some part more (subst IsSome is some))

module _ {K X : Type 0} (test : K → Bool) where
  pub lookup_key-append : (es fs : List (K × X)) → lookup_key test (es ++ fs) ≡ option_or (lookup_key test es) (lookup_key test fs)
  lookup_key-append [] fs = refl
  lookup_key-append (e ∷ es) fs =
      elim (test e.0) as (λ b. cond b (Some e.0) (lookup_key test (es ++ fs)) ≡ option_or (cond b (Some e.0) (lookup_key test es)) (lookup_key test fs)) [
        | true ↦ refl
        | false ↦ lookup_key-append es fs
      ]

-- equal keys are equal to the same keys
module _ {K : Type 0} (cmp : K → K → Ordering) (total : IsTotalOrder cmp) where
  alike : (k q : K) → is_at (cmp k) q ≡ true → (x : K) → is_at (cmp k) x ≡ is_at (cmp q) x
  alike k q is x = (eq_by_cmp_equiv total).congr k q x is

module _ {K X : Type 0} (cmp : K → K → Ordering) (total : IsTotalOrder cmp) where
  -- an insertion stores the key if no stored key is equal to it
  pub stored_inserted : (es : List (K × X)) (k : K) (w : X) (q : K) → lookup (is_at (cmp k)) es ≡ None
      → lookup_key (is_at (cmp q)) (insert_entry cmp es k w) ≡ option_or (lookup_key (is_at (cmp q)) es) (if is_at (cmp k) q then Some k else None)
  stored_inserted es k w q none =
      elim (is_at (cmp k) q) as (λ b. is_at (cmp k) q ≡ b → lookup_key (is_at (cmp q)) (insert_entry cmp es k w) ≡ option_or (lookup_key (is_at (cmp q)) es) (if b then Some k else None)) [
        | true ↦ λ is.
            let here : lookup_key (is_at (cmp q)) (insert_entry cmp es k w) ≡ Some k = sym (lookup_key_congr (is_at (cmp k)) (is_at (cmp q)) _ (alike cmp total k q is)) ∙ lookup_key_inserted cmp total es k w none in
            let absent : is_some (lookup_key (is_at (cmp q)) es) ≡ false =
            ap is_some (sym (lookup_key_congr (is_at (cmp k)) (is_at (cmp q)) es (alike cmp total k q is))) ∙ found-lookup_key (is_at (cmp k)) es ∙ ap is_some none in
            here ∙ sym (option_or_absent _ (Some k) absent)
        | false ↦ λ is. lookup_key_inserted_other cmp total es k q w is ∙ sym (option_or_none _)
      ] refl

  -- if the key's entry exists, the stored keys stay the same
  pub stored_kept : {Y : Type 0} (es : List (K × X)) (fs : List (K × Y)) (k q : K) → keys_of fs ≡ keys_of es → IsSome (lookup (is_at (cmp k)) es)
      → lookup_key (is_at (cmp q)) fs ≡ option_or (lookup_key (is_at (cmp q)) es) (if is_at (cmp k) q then Some k else None)
  stored_kept es fs k q same found =
      lookup_key_by_keys (is_at (cmp q)) fs es same ∙ elim (is_at (cmp k) q) as (λ b. is_at (cmp k) q ≡ b → lookup_key (is_at (cmp q)) es ≡ option_or (lookup_key (is_at (cmp q)) es) (if b then Some k else None)) [
        | true ↦ λ is.
            let stored : IsSome (lookup_key (is_at (cmp q)) es) = ap is_some (sym (lookup_key_congr (is_at (cmp k)) (is_at (cmp q)) es (alike cmp total k q is))) ∙ found-lookup_key (is_at (cmp k)) es ∙ found in
            sym (option_or_some _ _ stored)
        | false ↦ λ is. sym (option_or_none _)
      ] refl

module _ {K U V : Type 0} (cmp : K → K → Ordering) (total : IsTotalOrder cmp) where
  -- the stored keys, once the entries in done are merged
  abbrev pub StoredSoFar : Marks K V → List (K × Marked U) → Marks K V → Type 0
  StoredSoFar mine done now = (q : K) → stored_at cmp now q ≡ option_or (stored_at cmp mine q) (lookup_key (is_at (cmp q)) done)

  pub stored_step : (mine now after : Marks K V) (done : List (K × Marked U)) (k : K) (x : Marked U) → StoredSoFar mine done now → StoresKey cmp k now after → StoredSoFar mine (done ++ (k, x) ∷ []) after
  stored_step mine now after done k x so_far step q =
      let turn : (if is_at (cmp k) q then Some k else None) ≡ lookup_key (is_at (cmp q)) ((k, x) ∷ []) = ap (λ b. if b then Some k else None) ((eq_by_cmp_equiv total).symm k q) in
      step q ∙ ap (λ o. option_or o (if is_at (cmp k) q then Some k else None)) (so_far q) ∙ option_or_assoc (stored_at cmp mine q) (lookup_key (is_at (cmp q)) done) (if is_at (cmp k) q then Some k else None)
      ∙ ap (λ o. option_or (stored_at cmp mine q) (option_or (lookup_key (is_at (cmp q)) done) o)) turn
      ∙ ap (option_or (stored_at cmp mine q)) (sym (lookup_key-append (is_at (cmp q)) done ((k, x) ∷ [])))

  pub keeps_stored : (mine : Marks K V) (theirs : Marks K U) (now : Marks K V) (done left : List (K × Marked U)) → theirs.entries ≡ done ++ left → StoredSoFar mine done now → KeepsStored cmp mine theirs now
  keeps_stored mine theirs now done left given so_far q there =
      let stored : IsSome (stored_at cmp now q) = found-lookup_key (is_at (cmp q)) now.entries ∙ there in
      option_or_extends _ (stored_at cmp mine q) _ (lookup_key (is_at (cmp q)) left) (so_far q) stored
      ∙ ap (option_or (stored_at cmp mine q)) (sym (lookup_key-append (is_at (cmp q)) done left) ∙ ap (lookup_key (is_at (cmp q))) (sym given))
