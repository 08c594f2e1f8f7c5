use Rattle.std.proofs.Common.{length}
use Rattle.cfgreader.specs.Rules.{part}
use Rattle.cfgreader.specs.Inner.Builds.{parts_view}
use Rattle.cfgreader.proofs.Parts.{InParts}
use Rattle.cfgreader.proofs.reader.Reader.more_parts.Given as goal

abbrev pub invariant-loop : goal.invariant-loop
invariant-loop l = InParts part (parts_view l.fn.parts) l.fn.self l.self l.parts

abbrev pub decreases-loop : goal.decreases-loop
decreases-loop l = length l.self.rest.now
