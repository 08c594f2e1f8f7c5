use Rattle.std.proofs.Common.{take}
use Rattle.lr_conflicts.specs.Inner.Pushed.{AddsClashes, IsAgainst}
use Rattle.lr_conflicts.proofs.clashes.push_against.Given as goal

-- the productions so far are pushed
abbrev pub invariant-loop-production : goal.invariant-loop-production
invariant-loop-production l =
    AddsClashes (IsAgainst l.shifts l.other (take l.production-index l.productions) l.token) l.fn.entries.items l.entries.items
