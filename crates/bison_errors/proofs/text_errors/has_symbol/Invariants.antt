use Rattle.std.proofs.Common.{length, ◌≡◌}
use Rattle.bison_errors.specs.Errors.{has_symbol}
use Rattle.bison_errors.proofs.text_errors.has_symbol.Given as goal

abbrev pub invariant-loop-left : goal.invariant-loop-left
invariant-loop-left l =
    has_symbol l.parts ≡ has_symbol l.left

abbrev pub decreases-loop-left : goal.decreases-loop-left
decreases-loop-left l = length l.left
