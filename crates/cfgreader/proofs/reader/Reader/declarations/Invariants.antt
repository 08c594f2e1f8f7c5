use Rattle.std.proofs.Common.{length}
use Rattle.cfgreader.specs.Declarations.{declaration}
use Rattle.constructs.proofs.Steps.{Gathers}
use Rattle.cfgreader.specs.Inner.Builds.{file_reader}
use Rattle.cfgreader.proofs.reader.Reader.declarations.Given as goal

abbrev pub invariant-loop : goal.invariant-loop
invariant-loop l = Gathers file_reader (λ len. declaration len l.kind) l.fn.self l.self

abbrev pub decreases-loop : goal.decreases-loop
decreases-loop l = length l.self.rest.now
