use Rattle.std.proofs.Common.{ap}
use Rattle.constructs.specs.Construct.{goes_on}
use Rattle.cfgsection.specs.SectionGrammar.{separator, separators}
use Rattle.cfgsection.specs.Inner.Steps.{section_reader}
use Rattle.constructs.proofs.Steps.{gathers_start, gathers_on, repeat_done, turn_shorter}
use Rattle.cfgsection.proofs.section.reader.Reader.separators.Goals as goal

pub loop-init : goal.loop-init
loop-init c = gathers_start c.args.self.now

pub loop-smaller : goal.loop-smaller
loop-smaller c = turn_shorter section_reader (λ len. separator) goes_on c.loop.self c.separator.new.self c.separator.result tt c.separator.ensures (ap goes_on c.loop-test.true)

pub loop-preserved : goal.loop-preserved
loop-preserved c = gathers_on c.loop.invariant c.separator.new.self goes_on c.separator.result c.separator.ensures tt (ap goes_on c.loop-test.true)

pub returns : goal.returns
unfolding separators
returns c = repeat_done c.loop.invariant c.separator.new.self goes_on c.separator.result c.separator.ensures (ap goes_on c.loop-test.false)
