use Rattle.std.proofs.Common.{◌≡◌, ◌-◌, ◌^◌, length, map, min, sum, take}
use Rattle.lr_conflicts.specs.declared.Conflict.{Conflict}
use Rattle.lr_conflicts.proofs.Conflicts.reduce_reduce.Given as goal

-- those of the conflicts so far are counted
abbrev pub invariant-loop-conflict : goal.invariant-loop-conflict
invariant-loop-conflict l =
    l.count ≡ min (sum (map (λ (c : Conflict). length c.productions.items - 1) (take l.conflict-index l.conflict-items))) (2 ^ 64 - 1)
