-- Where merging stops, and why.
use Rattle.std.specs.Prelude.{◌≡◌, true, false, if◌then◌else◌, ◌||◌, Option, Some, None, is_none, IfSome, IsSomeAnd, ⊤}
use Rattle.std.specs.Option.{option_or}
use Rattle.std.specs.BTreeMap.{is_at}
use Rattle.std.specs.declared.cmp.Ordering.{Ordering}
use Rattle.cfgmarks.specs.declared.markmap.behavior.MergeBehavior.{MergeBehavior}
use Rattle.cfgmarks.specs.declared.markmap.marked.Marked.{Marked}
use Rattle.cfgmarks.specs.declared.markmap.fault.MergeError.TheVariants.{Exclusivity}
use Rattle.cfgmarks.specs.declared.markmap.fault.MergeFault.{MergeFault}
use Rattle.cfgmarks.specs.declared.markmap.fault.MergeFault.TheVariants.{Conflict, Convert, OutOfMemory}
use Rattle.cfgmarks.specs.declared.markmap.merge.Refusal.{Refusal}
use Rattle.cfgmarks.specs.declared.markmap.merge.Refusal.TheVariants as refusal
use Rattle.cfgmarks.specs.Marks.{Marks, entry_at, stored_at}
use Rattle.cfgmarks.specs.Merging.{conflicts, conflicts_at, stays, expected, MergedAt, Merged}

module _ {U V E : Type 0} (converts : U → V → Type 0) (refuses : U → E → Type 0) where
  -- why the marks of a key that is in both maps weren't merged
  abbrev pub IsRefusal : MergeBehavior → Marked V → Marked U → Refusal V E → Type 0
  IsRefusal behavior mine theirs (refusal.Conflict v) = (conflicts behavior mine theirs ≡ true) × IsSomeAnd theirs.value (λ u. converts u v)
  IsRefusal behavior mine theirs (refusal.Convert e) = (stays behavior mine theirs ≡ false) × IsSomeAnd theirs.value (λ u. refuses u e)

  -- merging allocates at a key: for a new entry, or to box a conflicting value. Their value is already converted then
  abbrev pub WantsMemory : MergeBehavior → Option (Marked V) → Marked U → Type 0
  WantsMemory default mine theirs = (is_none mine || conflicts_at default mine theirs ≡ true) × IfSome theirs.value (λ u. (v : V) × converts u v)

  -- the fault is true of a key's entries: the value that merging takes or that conflicts isn't converted, else it conflicts, else merging
  -- allocates
  abbrev pub IsFaultAt : {K : Type 0} → MergeBehavior → K → Option (Marked V) → Marked U → MergeFault K V E → Type 0
  IsFaultAt default k mine theirs (Conflict (Exclusivity key value)) = (key ≡ k) × (conflicts_at default mine theirs ≡ true) × IsSomeAnd theirs.value (λ u. converts u value.value)
  IsFaultAt default k mine theirs (Convert key e) = (key ≡ k) × IsSomeAnd (expected default mine theirs) (λ u. refuses u e)
  IsFaultAt default k mine theirs OutOfMemory = WantsMemory default mine theirs

  -- merging stops at the fault: its key is one of theirs, and exactly the keys of theirs below it are merged
  abbrev pub StopsAt : {K : Type 0} → (K → K → Ordering) → Marks K V → Marks K U → MergeFault K V E → Marks K V → Type 0
  StopsAt {K} cmp mine theirs fault now = (k : K) × (x : Marked U) × (stored_at cmp theirs k ≡ Some k) × (entry_at cmp theirs k ≡ Some x)
      × IsFaultAt mine.behavior k (entry_at cmp mine k) x fault × Merged cmp converts mine theirs k now

-- the key's entry is merged, and all others stay the same
abbrev pub MergesKey : {K U V : Type 0} → (K → K → Ordering) → (U → V → Type 0) → K → Marked U → Marks K V → Marks K V → Type 0
MergesKey {K} cmp converts k theirs before after = (after.behavior ≡ before.behavior)
    × MergedAt converts before.behavior (entry_at cmp before k) (Some theirs) (entry_at cmp after k)
    × ((q : K) → is_at (cmp k) q ≡ false → entry_at cmp after q ≡ entry_at cmp before q)

-- the key becomes a stored one if no stored key is equal to it
abbrev pub StoresKey : {K V : Type 0} → (K → K → Ordering) → K → Marks K V → Marks K V → Type 0
StoresKey {K} cmp k before after = (q : K) → stored_at cmp after q ≡ option_or (stored_at cmp before q) (if is_at (cmp k) q then Some k else None)

-- the fault of a conflict at the key, or running out of memory for it
abbrev pub IsConflict : {K V E : Type 0} → K → V → MergeFault K V E → Type 0
IsConflict k v (Conflict (Exclusivity key value)) = (key ≡ k) × (value.value ≡ v)
IsConflict k v (Convert key e) = ⊥
IsConflict k v OutOfMemory = ⊤
