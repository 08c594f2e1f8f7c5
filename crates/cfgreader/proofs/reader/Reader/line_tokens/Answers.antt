use Rattle.std.proofs.Common.{ap}
use Rattle.constructs.specs.Construct.{goes_on}
use Rattle.cfgreader.specs.Inner.Lists.{turn_in}
use Rattle.cfgreader.specs.Inner.Builds.{file_reader}
use Rattle.constructs.proofs.Steps.{gathers_start, gathers_on, repeat_refused, repeat_done, turn_shorter}
use Rattle.cfgreader.proofs.reader.Reader.line_tokens.Goals as goal

pub loop-init : goal.loop-init
loop-init c = gathers_start c.args.self.now

pub loop-smaller : goal.loop-smaller
loop-smaller c = turn_shorter file_reader (λ len. turn_in len c.args.list) goes_on c.loop.self c.line_turn.new.self c.in_ok-line_turn.field-0 tt c.in_ok-line_turn.ensures (ap goes_on c.if-branch.true)

pub loop-preserved : goal.loop-preserved
loop-preserved c = gathers_on c.loop.invariant c.line_turn.new.self goes_on c.in_ok-line_turn.field-0 c.in_ok-line_turn.ensures tt (ap goes_on c.if-branch.true)

pub returns-in_err-line_turn : goal.returns-in_err-line_turn
returns-in_err-line_turn c =
    repeat_refused c.loop.invariant c.line_turn.new.self c.from_residual.result _ c.from_residual.ensures.1 c.in_err-line_turn.ensures

pub returns : goal.returns
returns c = repeat_done c.loop.invariant c.line_turn.new.self goes_on c.in_ok-line_turn.field-0 c.in_ok-line_turn.ensures (ap goes_on c.if-branch.false)
