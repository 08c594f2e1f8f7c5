use Rattle.std.proofs.Common.{◌<◌, [], replicate}
use Rattle.cfgcycles.specs.StepLists.{AreAllInOrder}
use Rattle.cfgcycles.specs.UnitSteps.{IsStep}
use Rattle.cfgcycles.specs.Inner.Putting.{ArePut}
use Rattle.cfgcycles.proofs.stepping.unit_steps.Given as goal

abbrev pub invariant-loop-production : goal.invariant-loop-production
invariant-loop-production g l =
    ArePut (λ a step. IsStep (g.T.Tables.grammar l.tables) a step × (step.production < l.production))
    (replicate (g.T.Tables.grammar l.tables).rules []) l.steps × AreAllInOrder l.steps
