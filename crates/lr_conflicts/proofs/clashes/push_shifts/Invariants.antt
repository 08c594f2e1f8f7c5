use Rattle.std.proofs.Common.{take}
use Rattle.lr_conflicts.specs.Inner.Pushed.{AddsClashes}
use Rattle.lr_conflicts.proofs.Pushed.{IsShiftOf}
use Rattle.lr_conflicts.proofs.clashes.push_shifts.Given as goal

-- the productions are pushed against the items so far by which the token is shifted
abbrev pub invariant-loop-item : goal.invariant-loop-item
invariant-loop-item l =
    AddsClashes (IsShiftOf l.grammar l.conflict (take l.item-index l.item-items)) l.fn.entries.items l.entries.items
