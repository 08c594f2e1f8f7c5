use Rattle.std.proofs.Common.{ap}
use Rattle.constructs.specs.Construct.{goes_on}
use Rattle.cfgsection.specs.SectionGrammar.{white_character, white}
use Rattle.cfgsection.specs.Inner.Steps.{section_reader}
use Rattle.constructs.proofs.Steps.{gathers_start, gathers_on, repeat_done, turn_shorter}
use Rattle.cfgsection.proofs.section.reader.Reader.white.Goals as goal

pub loop-init : goal.loop-init
loop-init c = gathers_start c.args.self.now

pub loop-smaller : goal.loop-smaller
loop-smaller c = turn_shorter section_reader (λ len. white_character) goes_on c.loop.self c.white_character.new.self c.white_character.result tt c.white_character.ensures (ap goes_on c.loop-test.true)

pub loop-preserved : goal.loop-preserved
loop-preserved c = gathers_on c.loop.invariant c.white_character.new.self goes_on c.white_character.result c.white_character.ensures tt (ap goes_on c.loop-test.true)

pub returns : goal.returns
unfolding white
returns c = repeat_done c.loop.invariant c.white_character.new.self goes_on c.white_character.result c.white_character.ensures (ap goes_on c.loop-test.false)
