-- Cyclic rules, and their groups.
use Rattle.std.specs.Prelude.{ℕ, List, Option, length}
use Rattle.cfgrammar.specs.CyclicGroup.{CyclicGroup}
use Rattle.cfgrammar.specs.CyclicGroups.{AreGroups}
use Rattle.cfgrammar.specs.Numbered.{Numbered, core}
use Rattle.cfgrammar.specs.UnitSteps.{AreSteps, IsStep}
use Rattle.cfgrammar.specs.UnitStep.{UnitStep}

-- the unit steps of the grammar, and the groups of its cyclic rules
pub record AreOwnGroups (g : Numbered) (steps : List (List UnitStep)) (groups : List (Option CyclicGroup)) : Type 0 where
  pub are_steps : AreSteps (core g) steps
  pub are_groups : AreGroups (IsStep (core g)) (length g.rules) groups

-- the step is a step of some rule
abbrev pub IsSomeStep : Numbered → UnitStep → Type 0
IsSomeStep g step = (rule : ℕ) × IsStep (core g) rule step
