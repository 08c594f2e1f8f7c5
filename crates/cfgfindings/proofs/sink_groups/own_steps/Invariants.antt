use Rattle.cfgfindings.specs.Inner.SinkGroups.{AreNeedsBelow}
use Rattle.cfgfindings.proofs.sink_groups.own_steps.Given as goal

abbrev pub invariant-loop-rule : goal.invariant-loop-rule
invariant-loop-rule l = AreNeedsBelow l.unproductive l.rule 0 l.steps
