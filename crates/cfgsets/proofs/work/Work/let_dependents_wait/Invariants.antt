use Rattle.std.proofs.Common.{◌≡◌}
use Rattle.cfgsets.specs.Table.{bits_on}
use Rattle.cfgsets.proofs.Noting.{LettingWait}
use Rattle.cfgsets.proofs.work.Work.let_dependents_wait.Given as goal

abbrev pub invariant-loop-rule : goal.invariant-loop-rule
invariant-loop-rule l = record {
  dependents : l.self.dependents ≡ l.fn.self.dependents;
  letting_wait : LettingWait l.fn.self.dependents l.fn.self.grown l.self.grown l.fn.self.waiting l.self.waiting;
}

abbrev pub decreases-loop-rule : goal.decreases-loop-rule
decreases-loop-rule l = bits_on l.self.grown
