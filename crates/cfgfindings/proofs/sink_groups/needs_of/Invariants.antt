use Rattle.std.proofs.Common.{length}
use Rattle.cfgfindings.specs.Inner.SinkGroups.{AreNeedsBelow}
use Rattle.cfgfindings.proofs.sink_groups.needs_of.Given as goal

abbrev pub invariant-loop-production : goal.invariant-loop-production
invariant-loop-production l = AreNeedsBelow l.unproductive (length l.unproductive.rules) l.production l.needs
