-- Clashes, items and symbols of what a grammar has.
use Rattle.std.specs.Prelude.{◌<◌, ◌≤◌, ◌+◌, ℕ, [], All, Contains, get_or, length}
use Rattle.cfgrammar.specs.Accessors.{IsSymbolWithin}
use Rattle.cfgrammar.specs.Numbered.{Numbered, core}
use Rattle.cfgrammar.specs.Openings.{nth_production}
use Rattle.lr_states.specs.declared.Item.{Item}
use Rattle.lr_states.specs.declared.kernels.Target.{Target}
use Rattle.lr_conflicts.specs.declared.Conflict.{Conflict}
use Rattle.lr_conflicts.specs.declared.clashes.Clash.{Clash}
use Rattle.lr_conflicts.specs.Clashes.{IsIn}
use Rattle.lr_conflicts.specs.Conflicts.{ConflictTables}
use Rattle.lr_conflicts.specs.declared.examples.Side.{Side}

-- its productions and its token exist, and so much of the other production can be read
pub record IsWithin (g : Numbered) (clash : Clash) : Type 0 where
  pub production : clash.production < length g.productions
  pub other : clash.other.production < length g.productions
  pub read : clash.other.read ≤ length (nth_production (core g) clash.other.production).symbols
  pub token : clash.token < length g.tokens

-- its production exists, and so much of it can be read
pub record IsItem (g : Numbered) (item : Item) : Type 0 where
  pub within : item.production < length g.productions
  pub read : item.read ≤ length (nth_production (core g) item.production).symbols

-- it clashes in one of the conflicts
abbrev pub IsAmong : Numbered → ConflictTables → Clash → Type 0
IsAmong g x clash = (conflict : Conflict) × Contains x.conflicts conflict × IsIn g x.lookaheads.automaton conflict clash

-- the symbols of a side exist
pub record AreSymbolsWithin (g : Numbered) (side : Side) : Type 0 where
  pub prefix : All (IsSymbolWithin (λ s. s) g) side.prefix.items
  pub rest : All (IsSymbolWithin (λ s. s) g) side.rest.items

-- what the states and conflicts refer to exists
pub record AreWithin (g : Numbered) (x : ConflictTables) : Type 0 where
  pub items : (q : ℕ) → q < length x.lookaheads.automaton.states → (item : Item) → Contains (get_or x.lookaheads.automaton.states q []) item → IsItem g item
  pub targets : (q : ℕ) → q < length x.lookaheads.automaton.states → (target : Target) → Contains (get_or x.lookaheads.automaton.targets q []) target
      → target.symbol < length g.rules + length g.tokens
  pub conflicts : (conflict : Conflict) → Contains x.conflicts conflict → conflict.token < length g.tokens
