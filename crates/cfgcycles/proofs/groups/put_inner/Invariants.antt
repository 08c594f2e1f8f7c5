use Rattle.std.proofs.Common.{◌≡◌, Contains, slice_index, take}
use Rattle.cfgcycles.specs.Inner.Putting.{ArePut}
use Rattle.cfgcycles.proofs.groups.put_inner.Given as goal

abbrev pub invariant-loop-step : goal.invariant-loop-step
invariant-loop-step l = ArePut (λ a step. (a ≡ l.rule) × Contains (take l.step-index l.path) step
    × (slice_index l.numbers l.rule ≡ slice_index l.numbers step.rule)) l.fn.inner l.inner
