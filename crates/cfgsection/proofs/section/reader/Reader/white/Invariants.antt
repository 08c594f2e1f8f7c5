use Rattle.std.proofs.Common.{length}
use Rattle.cfgsection.specs.SectionGrammar.{white_character}
use Rattle.constructs.proofs.Steps.{Gathers}
use Rattle.cfgsection.specs.Inner.Steps.{section_reader}
use Rattle.cfgsection.proofs.section.reader.Reader.white.Given as goal

abbrev pub invariant-loop : goal.invariant-loop
invariant-loop l = Gathers section_reader (λ len. white_character) l.fn.self l.self

abbrev pub decreases-loop : goal.decreases-loop
decreases-loop l = length l.self.rest.now
