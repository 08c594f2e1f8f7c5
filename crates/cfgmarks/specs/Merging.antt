-- Merging a map of marks, theirs, into another, mine, key by key.
use Rattle.std.specs.Prelude.{◌≡◌, Bool, true, false, ◌||◌, ◌&&◌, if◌then◌else◌, Option, Some, None, is_some, is_none, IsSome, unwrap_or, IsSomeAnd, MatchOption}
use Rattle.std.specs.Bool.{MatchBool}
use Rattle.std.specs.Option.{ForSome, option_or}
use Rattle.std.specs.Ordering.{is_lt}
use Rattle.std.specs.declared.cmp.Ordering.{Ordering}
use Rattle.cfgmarks.specs.declared.markmap.behavior.MergeBehavior.{MergeBehavior}
use Rattle.cfgmarks.specs.declared.markmap.behavior.MergeBehavior.TheVariants.{Theirs, Ours, MutuallyExclusive}
use Rattle.cfgmarks.specs.declared.markmap.marked.Marked.{Marked}
use Rattle.cfgmarks.specs.Marks.{Marks, entry_at, stored_at}

-- the behaviour at a key of mine
abbrev pub behavior_of : {V : Type 0} → MergeBehavior → Marked V → MergeBehavior
behavior_of default mine = unwrap_or mine.behavior default

module _ {U V : Type 0} where
  -- nothing changes at a key that is in both maps: mine is kept as it is
  abbrev pub stays : MergeBehavior → Marked V → Marked U → Bool
  stays Theirs mine theirs = false
  stays Ours mine theirs = is_some mine.value
  stays MutuallyExclusive mine theirs = is_none theirs.value

  -- two values where only one is allowed
  abbrev pub conflicts : MergeBehavior → Marked V → Marked U → Bool
  conflicts Theirs mine theirs = false
  conflicts Ours mine theirs = false
  conflicts MutuallyExclusive mine theirs = is_some mine.value && is_some theirs.value

  -- the marks of both, with my behaviour
  abbrev pub combined : Marked V → Marked U → Option V → Marked V
  combined mine theirs value =
      record { used = mine.used || theirs.used; required = mine.required || theirs.required; behavior = mine.behavior; value = value }

  -- their marks, with their behaviour
  abbrev pub adopted : Marked U → Option V → Marked V
  adopted theirs value = record { used = theirs.used; required = theirs.required; behavior = theirs.behavior; value = value }

  -- their value, converted, if there is one, and otherwise mine
  abbrev pub Takes : (U → V → Type 0) → Option V → Option U → Option V → Type 0
  Takes converts mine theirs now = MatchOption theirs (now ≡ mine) (λ u. IsSomeAnd now (converts u))

  -- what a key that is in both maps has after merging
  abbrev pub MergesInto : (U → V → Type 0) → MergeBehavior → Marked V → Marked U → Marked V → Type 0
  MergesInto converts behavior mine theirs now =
      MatchBool (stays behavior mine theirs) (now ≡ mine) ((conflicts behavior mine theirs ≡ false) × (now ≡ combined mine theirs now.value) × Takes converts mine.value theirs.value now.value)

  -- what a key has after merging, if either map may have no entry for it
  abbrev pub MergedAt : (U → V → Type 0) → MergeBehavior → Option (Marked V) → Option (Marked U) → Option (Marked V) → Type 0
  MergedAt converts default mine None now = now ≡ mine
  MergedAt converts default None (Some theirs) now = IsSomeAnd now (λ x. (x ≡ adopted theirs x.value) × Takes converts None theirs.value x.value)
  MergedAt converts default (Some mine) (Some theirs) now = IsSomeAnd now (MergesInto converts (behavior_of default mine) mine theirs)

  -- the value of theirs that merging takes or that conflicts: the only one that is converted
  abbrev pub expected : MergeBehavior → Option (Marked V) → Marked U → Option U
  expected default None theirs = theirs.value
  expected default (Some mine) theirs = if stays (behavior_of default mine) mine theirs then None else theirs.value

  -- the entry of theirs conflicts with mine
  abbrev pub conflicts_at : MergeBehavior → Option (Marked V) → Marked U → Bool
  conflicts_at default None theirs = false
  conflicts_at default (Some mine) theirs = conflicts (behavior_of default mine) mine theirs

module _ {K U V : Type 0} (cmp : K → K → Ordering) (converts : U → V → Type 0) where
  -- theirs are merged at the keys for which below is true, and all others are mine
  abbrev pub MergedWhere : Marks K V → Marks K U → (K → Bool) → Marks K V → Type 0
  MergedWhere mine theirs below now = (now.behavior ≡ mine.behavior)
      × ((q : K) → MergedAt converts mine.behavior (entry_at cmp mine q) (if below q then entry_at cmp theirs q else None) (entry_at cmp now q))

  -- all of theirs are merged
  abbrev pub AllMerged : Marks K V → Marks K U → Marks K V → Type 0
  AllMerged mine theirs now = MergedWhere mine theirs (λ q. true) now

  -- theirs are merged at the keys below k, and all other keys are mine
  abbrev pub Merged : Marks K V → Marks K U → K → Marks K V → Type 0
  Merged mine theirs k now = MergedWhere mine theirs (λ q. is_lt (cmp q k)) now

-- each value of theirs that merging takes or that conflicts may be converted
abbrev pub CallableOnExpected : {K U V : Type 0} → (K → K → Ordering) → (U → Type 0) → Marks K V → Marks K U → Type 0
CallableOnExpected {K} {U} cmp may_convert mine theirs = (q : K) (x : Marked U) → entry_at cmp theirs q ≡ Some x → ForSome (expected mine.behavior (entry_at cmp mine q) x) may_convert

-- each stored key is mine if I have one, and otherwise theirs
abbrev pub KeepsStored : {K U V : Type 0} → (K → K → Ordering) → Marks K V → Marks K U → Marks K V → Type 0
KeepsStored {K} cmp mine theirs now = (q : K) → IsSome (entry_at cmp now q) → stored_at cmp now q ≡ option_or (stored_at cmp mine q) (stored_at cmp theirs q)
