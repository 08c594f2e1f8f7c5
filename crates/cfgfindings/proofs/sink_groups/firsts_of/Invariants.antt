use Rattle.cfgfindings.specs.Inner.SinkGroups.{AreFirsts}
use Rattle.cfgfindings.proofs.sink_groups.firsts_of.Given as goal

abbrev pub invariant-loop-first : goal.invariant-loop-first
invariant-loop-first l = AreFirsts l.steps l.groups l.first l.firsts.items
