use Rattle.std.proofs.Common.{◌≡◌, ℕ, ◌<◌, ◌↔◌, true, map}
use Rattle.cfgtables.specs.NumberedSymbols.{sym_of}
use Rattle.cfgcycles.specs.Inner.Putting.{AreNullableBetween, ArePut}
use Rattle.cfgcycles.specs.StepLists.{AreAllInOrder, HasStep}
use Rattle.cfgcycles.specs.declared.step_paths.UnitStep.{UnitStep}
use Rattle.cfgcycles.proofs.Positions.{IsBefore}
use Rattle.cfgcycles.proofs.stepping.put_steps.Given as goal

abbrev pub invariant-loop-index : goal.invariant-loop-index
invariant-loop-index g l =
    ((l.prefix ≡ true) ↔ AreNullableBetween l.firsts (map (sym_of g.S.Storage.number) l.symbols) 0 l.index)
    × ArePut (IsBefore (g.T.Tables.grammar l.tables) l.production l.index) l.fn.steps l.steps
    × (AreAllInOrder l.fn.steps → ((a : ℕ) (step : UnitStep) → HasStep l.fn.steps a step → step.production < l.production) → AreAllInOrder l.steps)
