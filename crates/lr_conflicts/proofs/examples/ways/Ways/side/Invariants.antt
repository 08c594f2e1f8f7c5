use Rattle.std.proofs.Common.{map}
use Rattle.lr_conflicts.specs.Inner.Searches.{setting}
use Rattle.lr_conflicts.proofs.Compared.{before}
use Rattle.lr_conflicts.proofs.Showing.{f}
use Rattle.lr_conflicts.proofs.Walked.{IsWalked}
use Rattle.lr_conflicts.proofs.examples.ways.Ways.side.Given as goal

-- the steps back to the last node are walked
abbrev pub invariant-loop-step : goal.invariant-loop-step
invariant-loop-step l =
    IsWalked (setting l.self) l.found.entries l.fn.node (map f l.unread) l.last l.prefix.items l.rest.items

abbrev pub decreases-loop-step : goal.decreases-loop-step
decreases-loop-step l = before l.found.entries l.last
