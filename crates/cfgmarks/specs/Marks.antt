-- A map of marks: each of its keys has marks, and may hold a value. The entries are in the order of their keys.
use Rattle.std.specs.Prelude.{◌≡◌, ℕ, ◌+◌, true, false, ◌&&◌, not, if◌then◌else◌, List, Option, Some, None, is_some, is_none, unwrap_or, ◌⊎◌}
use Rattle.std.specs.List.{filter_map}
use Rattle.std.specs.Option.{option_map}
use Rattle.std.specs.Map.{lookup, lookup_key, remove_entry}
use Rattle.std.specs.BTreeMap.{insert_entry, is_at}
use Rattle.std.specs.declared.cmp.Ordering.{Ordering}
use Rattle.std.specs.declared.cmp.Ordering.TheVariants.{Equal}
use Rattle.cfgmarks.specs.declared.markmap.behavior.MergeBehavior.{MergeBehavior}
use Rattle.cfgmarks.specs.MarkWord.{set_behavior_word}
use Rattle.cfgmarks.specs.declared.markmap.marked.Marked.{Marked}
use Rattle.cfgmarks.specs.declared.markmap.MarkMap.{MarkMap}

-- each key's marks and value, in the keys' order, and the behaviour that an unset one means
pub record Marks (K V : Type 0) : Type 0 where
  pub entries : List (K × Marked V)
  pub behavior : MergeBehavior

-- what a map represents
abbrev pub marks : {K V : Type 0} → MarkMap K V → Marks K V
marks m = record { entries = m.contents.entries; behavior = m.default_behavior }

-- no mark and no value
abbrev pub unmarked : {V : Type 0} → Marked V
unmarked = record { used = false; required = false; behavior = None; value = None }

abbrev pub set_used : {V : Type 0} → Marked V → Marked V
set_used x = record x { used = true }

abbrev pub set_required : {V : Type 0} → Marked V → Marked V
set_required x = record x { required = true }

-- a new behaviour replaces the old one
abbrev pub set_behavior : {V : Type 0} → MergeBehavior → Marked V → Marked V
set_behavior b x = record x { behavior = Some b }

abbrev pub set_value : {V : Type 0} → V → Marked V → Marked V
set_value v x = record x { value = Some v }

-- the marks as one number
abbrev pub mark_word : {V : Type 0} → Marked V → ℕ
mark_word x = (if x.used then 1 else 0) + (if x.required then 2 else 0) + set_behavior_word x.behavior

module _ {K V : Type 0} where
  -- an entry's key and value, if it holds one
  abbrev pub held_pair : K × Marked V → Option (K × V)
  held_pair e = option_map (λ v. (e.0, v)) e.1.value

  -- among entries, the keys that hold a value, each with its value, in order
  abbrev pub held_among : List (K × Marked V) → List (K × V)
  held_among es = filter_map held_pair es

  -- the keys that hold a value, each with its value, in order
  abbrev pub held : Marks K V → List (K × V)
  held m = held_among m.entries

  -- an entry's key, if it holds a value that isn't used
  abbrev pub unused_key : K × Marked V → Option K
  unused_key e = if is_some e.1.value && not e.1.used then Some e.0 else None

  -- the keys that hold a value and aren't used, in order
  abbrev pub unused_keys : Marks K V → List K
  unused_keys m = filter_map unused_key m.entries

  -- an entry's key, if it is required and holds no value
  abbrev pub missing_key : K × Marked V → Option K
  missing_key e = if e.1.required && is_none e.1.value then Some e.0 else None

  -- the required keys without a value, in order
  abbrev pub missing_keys : Marks K V → List K
  missing_keys m = filter_map missing_key m.entries

  module _ (cmp : K → K → Ordering) where
    -- the entry of a key: its marks and its value
    abbrev pub entry_at : Marks K V → K → Option (Marked V)
    entry_at m k = lookup (is_at (cmp k)) m.entries

    -- the stored key that is equal to a key
    abbrev pub stored_at : Marks K V → K → Option K
    stored_at m k = lookup_key (is_at (cmp k)) m.entries

    -- the marks of a key; a key without an entry has none
    abbrev pub marks_at : Marks K V → K → Marked V
    marks_at m k = unwrap_or (entry_at m k) unmarked

    -- the value of a key
    abbrev pub value_at : Marks K V → K → Option V
    value_at m k = (marks_at m k).value

    -- the map with the marks of a key changed by f; a stored key stays, and a new one is inserted in order
    abbrev pub changed : Marks K V → K → (Marked V → Marked V) → Marks K V
    changed m k f = record m { entries = insert_entry cmp m.entries k (f (marks_at m k)) }

    -- the map without a key's entry
    abbrev pub without : Marks K V → K → Marks K V
    without m k = record m { entries = remove_entry (is_at (cmp k)) m.entries }

    -- the map after a change at a borrowed key: if the key has no entry, a clone of it becomes the stored one
    abbrev pub ChangesAt : (K → K → Type 0) → K → (Marked V → Marked V) → Marks K V → Marks K V → Type 0
    ChangesAt is_clone k f before after = (c : K) × ((c ≡ k) ⊎ is_clone k c) × (after ≡ changed before c f)

-- a clone of a key is equal to it
abbrev pub IsFaithful : {K : Type 0} → (K → K → Ordering) → (K → K → Type 0) → Type 0
IsFaithful {K} cmp is_clone = (k c : K) → is_clone k c → cmp k c ≡ Equal
