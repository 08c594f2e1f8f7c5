use Rattle.std.proofs.Common.{Contains, take}
use Rattle.lr_conflicts.specs.Clashes.{IsIn}
use Rattle.lr_conflicts.specs.declared.Conflict.{Conflict}
use Rattle.lr_conflicts.proofs.examples.clashing.conflict_of.Given as goal

-- none so far has the clash
abbrev pub invariant-loop-conflict : goal.invariant-loop-conflict
invariant-loop-conflict l = (conflict : Conflict) → Contains (take l.conflict-index l.conflicts) conflict → IsIn l.grammar l.states conflict l.clash → ⊥
