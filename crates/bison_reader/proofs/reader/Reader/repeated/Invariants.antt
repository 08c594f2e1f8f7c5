use Rattle.std.proofs.Common.{length}
use Rattle.constructs.proofs.Steps.{Gathers}
use Rattle.bison_reader.specs.Inner.Builds.{rest_of, word_reader}
use Rattle.bison_reader.proofs.reader.Reader.repeated.Given as goal

abbrev pub invariant-loop : goal.invariant-loop
invariant-loop g l = Gathers word_reader (g.T.Turns.construct l.turns) l.fn.self l.self

abbrev pub decreases-loop : goal.decreases-loop
decreases-loop g l = length (rest_of l.self)
