use Rattle.std.proofs.Common.{length}
use Rattle.cfgreader.specs.Rules.{prefix_part, no_parts}
use Rattle.cfgreader.proofs.Parts.{InParts}
use Rattle.cfgreader.proofs.reader.Reader.prefix_parts.Given as goal

abbrev pub invariant-loop : goal.invariant-loop
invariant-loop l = InParts prefix_part no_parts l.fn.self l.self l.parts

abbrev pub decreases-loop : goal.decreases-loop
decreases-loop l = length l.self.rest.now
