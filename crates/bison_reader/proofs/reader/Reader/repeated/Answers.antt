use Rattle.std.proofs.Common.{ap}
use Rattle.constructs.specs.Construct.{goes_on}
use Rattle.bison_reader.specs.Inner.Builds.{word_reader}
use Rattle.constructs.proofs.Steps.{gathers_start, gathers_on, repeat_refused, repeat_done, turn_shorter}
use Rattle.bison_reader.proofs.reader.Reader.repeated.Goals as goal

pub loop-init : goal.loop-init
loop-init g c = gathers_start c.args.self.now

pub loop-smaller : goal.loop-smaller
loop-smaller g c = turn_shorter word_reader (g.T.Turns.construct c.args.turns.now) goes_on c.loop.self c.turn.new.reader c.in_ok-turn.field-0 tt c.in_ok-turn.ensures (ap goes_on c.if-branch.true)

pub loop-preserved : goal.loop-preserved
loop-preserved g c = gathers_on c.loop.invariant c.turn.new.reader goes_on c.in_ok-turn.field-0 c.in_ok-turn.ensures tt (ap goes_on c.if-branch.true)

pub returns-in_err-turn : goal.returns-in_err-turn
returns-in_err-turn g c = repeat_refused c.loop.invariant c.turn.new.reader c.from_residual.result _ c.from_residual.ensures.1 c.in_err-turn.ensures

pub returns : goal.returns
returns g c = repeat_done c.loop.invariant c.turn.new.reader goes_on c.in_ok-turn.field-0 c.in_ok-turn.ensures (ap goes_on c.if-branch.false)
