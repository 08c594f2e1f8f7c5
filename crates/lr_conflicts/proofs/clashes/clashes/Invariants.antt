use Rattle.std.proofs.Common.{[], take}
use Rattle.lr_conflicts.specs.Inner.Pushed.{AddsClashes, IsInOne}
use Rattle.lr_conflicts.proofs.clashes.clashes.Given as goal

-- what clashes in the conflicts so far is pushed
abbrev pub invariant-loop-conflict : goal.invariant-loop-conflict
invariant-loop-conflict l = AddsClashes (IsInOne l.grammar l.states (take l.conflict-index l.conflicts)) [] l.entries.items
