use Rattle.std.proofs.Common.{take}
use Rattle.cfgfindings.specs.Inner.SinkGroups.{LeadTo}
use Rattle.cfgfindings.proofs.sink_groups.is_closed.Given as goal

abbrev pub invariant-loop-rule : goal.invariant-loop-rule
invariant-loop-rule l = LeadTo l.steps l.entries l.first (take l.rule-index l.rules)
