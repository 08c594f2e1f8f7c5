use Rattle.std.proofs.Common.{◌≡◌, ◌<◌, [], length, replicate, slice_index}
use Rattle.cfgcycles.specs.StepLists.{HasStep}
use Rattle.cfgcycles.specs.Inner.Putting.{ArePut}
use Rattle.cfgcycles.proofs.groups.inner_steps.Given as goal

abbrev pub invariant-loop-rule : goal.invariant-loop-rule
invariant-loop-rule l = ArePut (λ a step. (a < l.rule) × HasStep l.steps a step × (slice_index l.numbers a ≡ slice_index l.numbers step.rule))
    (replicate (length l.steps) []) l.inner
