use Rattle.std.proofs.Common.{◌≡◌, length}
use Rattle.constructs.proofs.Steps.{Gathers}
use Rattle.bison_reader.specs.Inner.Builds.{rest_of, word_reader}
use Rattle.bison_reader.specs.Rules.{part}
use Rattle.bison_reader.proofs.reader.Reader.parts.Given as goal

abbrev pub invariant-loop-parts : goal.invariant-loop-parts
invariant-loop-parts l = (gathers : Gathers word_reader part l.fn.self l.self) × (gathers.values ≡ l.parts.items)

abbrev pub decreases-loop-parts : goal.decreases-loop-parts
decreases-loop-parts l = length (rest_of l.self)
