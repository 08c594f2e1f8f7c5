use Rattle.std.proofs.Common.{ap}
use Rattle.constructs.specs.Construct.{goes_on}
use Rattle.cfgsection.specs.SectionGrammar.{entry_turn, entries}
use Rattle.cfgsection.specs.Inner.Steps.{section_reader}
use Rattle.constructs.proofs.Steps.{gathers_start, gathers_on, repeat_refused, repeat_done, turn_shorter}
use Rattle.cfgsection.proofs.section.reader.Reader.entries.Goals as goal

pub loop-init : goal.loop-init
loop-init c = gathers_start c.args.self.now

pub loop-smaller : goal.loop-smaller
loop-smaller c = turn_shorter section_reader entry_turn goes_on c.loop.self c.entry_turn.new.self c.in_ok-entry_turn.field-0 tt c.in_ok-entry_turn.ensures (ap goes_on c.if-branch.true)

pub loop-preserved : goal.loop-preserved
loop-preserved c = gathers_on c.loop.invariant c.entry_turn.new.self goes_on c.in_ok-entry_turn.field-0 c.in_ok-entry_turn.ensures tt (ap goes_on c.if-branch.true)

pub returns-in_err-entry_turn : goal.returns-in_err-entry_turn
unfolding entries
returns-in_err-entry_turn c =
    repeat_refused c.loop.invariant c.entry_turn.new.self c.from_residual.result _ c.from_residual.ensures.1 c.in_err-entry_turn.ensures

pub returns : goal.returns
unfolding entries
returns c = repeat_done c.loop.invariant c.entry_turn.new.self goes_on c.in_ok-entry_turn.field-0 c.in_ok-entry_turn.ensures (ap goes_on c.if-branch.false)
