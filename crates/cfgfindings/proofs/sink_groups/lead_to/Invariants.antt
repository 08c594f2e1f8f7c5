use Rattle.std.proofs.Common.{take}
use Rattle.cfgfindings.specs.Inner.SinkGroups.{AllLeadTo}
use Rattle.cfgfindings.proofs.sink_groups.lead_to.Given as goal

abbrev pub invariant-loop-step : goal.invariant-loop-step
invariant-loop-step l = AllLeadTo (take l.step-index l.steps) l.entries l.first
