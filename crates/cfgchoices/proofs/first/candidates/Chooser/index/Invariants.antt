use Rattle.std.proofs.Common.{◌-◌}
use Rattle.cfgchoices.specs.Inner.Candidates.{candidates_of}
use Rattle.cfgchoices.proofs.Located.{Between}
use Rattle.cfgchoices.proofs.first.candidates.Chooser.index.Given as goal

abbrev pub invariant-loop-low : goal.invariant-loop-low
invariant-loop-low g l = Between l.optimal (candidates_of g.S.Storage.number l.self) (g.S.Storage.number l.fn.p.0) l.low l.high

abbrev pub decreases-loop-low : goal.decreases-loop-low
decreases-loop-low g l = l.high - l.low
