use Rattle.std.proofs.Common.{length}
use Rattle.cfgreader.specs.Inner.Lists.{turn_in}
use Rattle.constructs.proofs.Steps.{Gathers}
use Rattle.cfgreader.specs.Inner.Builds.{file_reader}
use Rattle.cfgreader.proofs.reader.Reader.line_tokens.Given as goal

abbrev pub invariant-loop : goal.invariant-loop
invariant-loop l = Gathers file_reader (λ len. turn_in len l.list) l.fn.self l.self

abbrev pub decreases-loop : goal.decreases-loop
decreases-loop l = length l.self.rest.now
