use Rattle.std.proofs.Common.{length}
use Rattle.cfgreader.proofs.Blanks.{KeepsBlank}
use Rattle.cfgreader.proofs.reader.Reader.blank.Given as goal

abbrev pub invariant-loop-rest : goal.invariant-loop-rest
invariant-loop-rest l = KeepsBlank l.lines l.fn.self l.self

abbrev pub decreases-loop-rest : goal.decreases-loop-rest
decreases-loop-rest l = length l.self.rest.now
