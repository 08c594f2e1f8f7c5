use Rattle.std.proofs.Common.{length, map}
use Rattle.lr_states.proofs.Groups.{AreGrouped}
use Rattle.lr_states.proofs.kernels.add_kernels.Given as goal

-- the steps before the rest are done
abbrev pub invariant-loop-symbol : goal.invariant-loop-symbol
invariant-loop-symbol l = AreGrouped l.fn.steps l.rest (map (λ key. key.items) l.fn.kernels.keys) (map (λ key. key.items) l.kernels.keys) l.targets.items

abbrev pub decreases-loop-symbol : goal.decreases-loop-symbol
decreases-loop-symbol l = length l.rest
