use Rattle.std.proofs.Common.{length}
use Rattle.constructs.specs.Construct.{while_test}
use Rattle.cfgreader.specs.Declarations.{is_listed}
use Rattle.cfgreader.specs.Inner.Lists.{listed_in}
use Rattle.constructs.proofs.Steps.{Gathers}
use Rattle.cfgreader.specs.Inner.Builds.{file_reader}
use Rattle.cfgreader.proofs.reader.Reader.list.Given as goal

abbrev pub invariant-loop-list : goal.invariant-loop-list
invariant-loop-list l = Gathers file_reader (λ len. while_test is_listed (listed_in len l.list)) l.fn.self l.self

abbrev pub decreases-loop-list : goal.decreases-loop-list
decreases-loop-list l = length l.self.rest.now
