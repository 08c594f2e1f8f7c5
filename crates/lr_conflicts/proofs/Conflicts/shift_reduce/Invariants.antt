use Rattle.std.proofs.Common.{◌≡◌, count_by, take}
use Rattle.lr_conflicts.specs.declared.Conflict.{Conflict}
use Rattle.lr_conflicts.proofs.Conflicts.shift_reduce.Given as goal

-- those of the conflicts so far are counted
abbrev pub invariant-loop-conflict : goal.invariant-loop-conflict
invariant-loop-conflict l = l.count ≡ count_by (λ (c : Conflict). c.shifts) (take l.conflict-index l.conflict-items)
