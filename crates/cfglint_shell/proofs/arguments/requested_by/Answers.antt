use Rattle.std.proofs.Common.{ℕ, List, [], sym, ap, ◌∙◌}
use Rattle.std.specs.Borrow.{Bor}
use Rattle.cfglint_shell.specs.Inner.{options_view, step_view, stop_view}
use Rattle.cfglint_shell.proofs.RequestedArguments.{at_goes, at_stops, past_arguments}
use Rattle.cfglint_shell.proofs.arguments.requested_by.Goals as goal

abbrev no_argument : Bor (List ℕ)
no_argument = record { ref_ptr = (0, 0); now = [] }

pub returns-in-Stops : goal.returns-in-Stops
returns-in-Stops c =
    at_stops c.loop-argument.expected (options_view c.loop-argument.options) c.args.arguments.now c.loop-argument.argument-index _
    c.loop-argument.invariant no_argument (stop_view c.in-Stops.stop) c.loop-argument-test.true
    (ap (step_view (options_view c.take.new.self)) (sym c.in-Stops.is) ∙ c.in_ok-next.ensures)

pub loop-argument-preserved : goal.loop-argument-preserved
loop-argument-preserved c =
    at_goes c.loop-argument.expected (options_view c.loop-argument.options) c.args.arguments.now c.loop-argument.argument-index _
    c.loop-argument.invariant no_argument c.in-Goes.next (options_view c.take.new.self) c.loop-argument-test.true
    (ap (step_view (options_view c.take.new.self)) (sym c.in-Goes.is) ∙ c.in_ok-next.ensures)

pub returns-in-Some : goal.returns-in-Some
returns-in-Some c =
    sym c.in-Some.ensures
    ∙ past_arguments c.loop-argument.expected (options_view c.loop-argument.options) c.args.arguments.now c.loop-argument.argument-index _
    c.loop-argument.invariant c.loop-argument-test.false

pub returns : goal.returns
returns c =
    sym c.in-None.ensures
    ∙ past_arguments c.loop-argument.expected (options_view c.loop-argument.options) c.args.arguments.now c.loop-argument.argument-index _
    c.loop-argument.invariant c.loop-argument-test.false
