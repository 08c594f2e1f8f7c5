use Rattle.std.proofs.Common.{◌-◌, length}
use Rattle.cfgwords.proofs.PassedLemmas.{IsCounted}
use Rattle.cfgwords.proofs.passed.passed_len.Given as goal

abbrev pub invariant-loop-step : goal.invariant-loop-step
invariant-loop-step l = IsCounted l.kind l.bytes l.i l.step

abbrev pub decreases-loop-step : goal.decreases-loop-step
decreases-loop-step l = length l.bytes - l.i
