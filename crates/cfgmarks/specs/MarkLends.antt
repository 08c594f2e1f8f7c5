-- What a map of marks finally is, once a borrow through a vacant entry ends.
use Rattle.std.specs.Prelude.{◌≡◌, Result}
use Rattle.std.specs.Borrow.{Lends, LendsSoOk, RestsIfErr, Fml, RattleType, MutBor}
use Rattle.std.specs.declared.cmp.Ord as ord
use Rattle.std.specs.declared.cmp.PartialEq as eq
use Rattle.std.specs.declared.cmp.PartialOrd as partial
use Rattle.std.specs.BTreeMap.Lent.{OrdMembers}
use Rattle.cfgmarks.specs.contracts.markmap.marked.Marked as marked
use Rattle.cfgmarks.specs.declared.markmap.marked.Marked.{Marked}
use Rattle.cfgmarks.specs.declared.markmap.MarkMap.{MarkMap}
use Rattle.cfgmarks.specs.contracts.markmap.MarkMap.{the_row}
use Rattle.cfgmarks.specs.declared.markmap.entry.OccupiedEntry.{OccupiedEntry}
use Rattle.cfgmarks.specs.declared.markmap.entry.VacantEntry.{VacantEntry}
use Rattle.cfgmarks.specs.Marks.{marks, changed, set_value}
use Rattle.cfgmarks.specs.MarkEntry.{vacant_map, vacant_key}

-- a map of marks, as the logic represents it
abbrev pub map_row : (K V : RattleType) → OrdMembers K.Denot → RattleType
map_row K V g = the_row K V (record { cmp = g.cmp }) (record { eq = g.eq }) (record { partial_cmp = g.partial_cmp })

module _ (K V : RattleType) (g : OrdMembers K.Denot) where
  -- the entry's key finally has the last value after r, and after a refusal the map is as it was
  abbrev pub lends_value : {E : Type 0} → VacantEntry K.Denot V.Denot → Result (MutBor V.Denot) E → Fml
  lends_value e r =
      LendsSoOk (map_row K V g) V e.map r (λ n w. marks n ≡ changed g.cmp (vacant_map e) (vacant_key e) (set_value w)) (λ n. marks n ≡ vacant_map e)

  -- the occupied entry holds the borrow, and after a refusal the map is as it was
  abbrev pub rests_if_refused : {E : Type 0} {h : ord.Ghosts K.Denot} {h' : eq.Ghosts K.Denot} {h'' : partial.Ghosts K.Denot}
      → VacantEntry K.Denot V.Denot → Result (OccupiedEntry K.Denot V.Denot h h' h'') E → Fml
  rests_if_refused e r = RestsIfErr (map_row K V g) e.map (λ o. o.map.ghost_name) r (λ n. marks n ≡ vacant_map e)

  -- the key finally has the last value after r, and if it has no entry the map stays the same
  abbrev pub lends_put : {E : Type 0} → MutBor (MarkMap K.Denot V.Denot) → K.Denot → Result (MutBor V.Denot) E → Fml
  lends_put m k r = LendsSoOk (map_row K V g) V m r (λ n w. marks n ≡ changed g.cmp (marks m.now) k (set_value w)) (λ n. marks n ≡ marks m.now)

-- the marks finally have the last value after r
abbrev pub lends_value_of : (V : RattleType) → MutBor (Marked V.Denot) → MutBor V.Denot → Fml
lends_value_of V m r = Lends (marked.the_row V) V m r (λ w. set_value w m.now)
