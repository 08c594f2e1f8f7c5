-- Which conflicts have a clash, and what shows it.
use Rattle.std.specs.Prelude.{◌≡◌, ℕ, List, ◌∷◌, Option, None, Some, Contains, IsTrue}
use Rattle.cfgrammar.specs.Associativity.{Associativity}
use Rattle.cfgrammar.specs.Numbered.{Numbered, core}
use Rattle.lr_states.specs.Automaton.{AreGotos, Automaton}
use Rattle.lr_states.specs.Viable.{AreStates, IsUsed}
use Rattle.lr_conflicts.specs.Clashes.{ShiftsBy}
use Rattle.lr_conflicts.specs.Conflicts.{IsConflict, read_item}
use Rattle.lr_conflicts.specs.declared.Conflict.{Conflict}
use Rattle.lr_conflicts.specs.declared.clashes.Clash.{Clash}
use Rattle.lr_conflicts.specs.Examples.{IsExample}
use Rattle.lr_conflicts.specs.declared.examples.Example.{Example}

-- the conflict is one of the grammar's, whose states these are
pub record IsKnown (g : Numbered) (x : Automaton) (conflict : Conflict) : Type 0 where
  pub levels : List Associativity
  pub states : AreStates (core g) (IsUsed (core g)) x.states
  pub gotos : AreGotos (core g) (IsUsed (core g)) x
  pub is : IsConflict g levels x conflict

-- the token could be shifted by the clash's other item, or its production reduced
pub record IsShiftIn (g : Numbered) (x : Automaton) (conflict : Conflict) (clash : Clash) : Type 0 where
  pub shifts : IsTrue conflict.shifts
  pub production : Contains conflict.productions.items clash.production
  pub other : ShiftsBy g x conflict clash.other

-- the clash's other production could be reduced first, or its production
pub record IsReductionIn (g : Numbered) (conflict : Conflict) (clash : Clash) : Type 0 where
  pub first : ℕ
  pub rest : List ℕ
  pub is : conflict.productions.items ≡ first ∷ rest
  pub production : Contains rest clash.production
  pub other : clash.other ≡ read_item g first

-- there is an example, and it is one of the clash
abbrev pub ShowsClash : Numbered → Automaton → Conflict → Clash → Option Example → Type 0
ShowsClash g x conflict clash None = ⊥
ShowsClash g x conflict clash (Some example) = IsExample g x conflict clash example
