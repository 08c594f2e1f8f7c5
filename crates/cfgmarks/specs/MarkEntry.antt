-- A view of a key in a map of marks.
use Rattle.std.specs.Prelude.{◌≡◌, Bool, true, false}
use Rattle.std.specs.Borrow.{MutBor}
use Rattle.std.specs.declared.cmp.Ordering.{Ordering}
use Rattle.std.specs.declared.cmp.Ord as ord
use Rattle.std.specs.declared.cmp.PartialEq as eq
use Rattle.std.specs.declared.cmp.PartialOrd as partial
use Rattle.cfgmarks.specs.declared.markmap.MarkMap.{MarkMap}
use Rattle.cfgmarks.specs.declared.markmap.marked.Marked.{Marked}
use Rattle.cfgmarks.specs.declared.markmap.entry.Entry.{Entry}
use Rattle.cfgmarks.specs.declared.markmap.entry.Entry.TheVariants.{Occupied, Vacant}
use Rattle.cfgmarks.specs.declared.markmap.entry.OccupiedEntry.{OccupiedEntry}
use Rattle.cfgmarks.specs.declared.markmap.entry.VacantEntry.{VacantEntry}
use Rattle.cfgmarks.specs.Marks.{Marks, marks, marks_at, changed}

module _ {K V : Type 0} {g : ord.Ghosts K} {g' : eq.Ghosts K} {g'' : partial.Ghosts K} where
  -- the map that the entry borrows
  abbrev pub entry_map : Entry K V g g' g'' → MutBor (MarkMap K V)
  entry_map (Occupied e) = e.map
  entry_map (Vacant e) = e.map

  -- the entry's key
  abbrev pub entry_key : Entry K V g g' g'' → K
  entry_key (Occupied e) = e.key
  entry_key (Vacant e) = e.key

  -- whether the key holds a value
  abbrev pub is_occupied : Entry K V g g' g'' → Bool
  is_occupied (Occupied e) = true
  is_occupied (Vacant e) = false

  -- the map that an occupied entry borrows, as it is now
  abbrev pub occupied_map : OccupiedEntry K V g g' g'' → Marks K V
  occupied_map e = marks e.map.now

  -- an occupied entry's key, which is equal to the stored one
  abbrev pub occupied_key : OccupiedEntry K V g g' g'' → K
  occupied_key e = e.key

  -- the marks and the value of an occupied entry
  abbrev pub occupied_marks : (K → K → Ordering) → OccupiedEntry K V g g' g'' → Marked V
  occupied_marks cmp e = marks_at cmp (occupied_map e) e.key

  -- the same entry of the same map, with its marks changed by f
  abbrev pub IsChanged : (K → K → Ordering) → (Marked V → Marked V) → OccupiedEntry K V g g' g'' → OccupiedEntry K V g g' g'' → Type 0
  IsChanged cmp f before after = (after.map.ghost_name ≡ before.map.ghost_name) × (after.key ≡ before.key)
      × (occupied_map after ≡ changed cmp (occupied_map before) before.key f)

module _ {K V : Type 0} where
  -- the map that a vacant entry borrows, as it is now
  abbrev pub vacant_map : VacantEntry K V → Marks K V
  vacant_map e = marks e.map.now

  -- the key of a vacant entry
  abbrev pub vacant_key : VacantEntry K V → K
  vacant_key e = e.key

  -- the same key of the same map
  abbrev pub IsSamePosition : VacantEntry K V → VacantEntry K V → Type 0
  IsSamePosition before after = (after.map.ghost_name ≡ before.map.ghost_name) × (after.key ≡ before.key)
