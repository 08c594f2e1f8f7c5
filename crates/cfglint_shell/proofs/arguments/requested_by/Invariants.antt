-- The rest of the arguments requests, after the options so far, what all of them request.
use Rattle.std.proofs.Common.{◌≡◌, drop, map}
use Rattle.cfglint_shell.specs.Inner.{options_view}
use Rattle.cfglint_shell.specs.Requests.{requested, arguments_request}
use Rattle.cfglint_shell.proofs.arguments.requested_by.Given as goal

abbrev pub invariant-loop-argument : goal.invariant-loop-argument
invariant-loop-argument l =
    arguments_request l.expected (options_view l.options) (map (λ argument. argument.now) (drop l.argument-index l.arguments)) ≡ requested (map (λ argument. argument.now) l.arguments)
