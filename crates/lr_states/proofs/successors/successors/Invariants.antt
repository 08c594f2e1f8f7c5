use Rattle.std.proofs.Common.{◌≡◌, ℕ, take}
use Rattle.cfgrammar.specs.Numbered.{core}
use Rattle.lr_states.specs.Inner.Closure.{items_after}
use Rattle.lr_states.specs.Inner.Steps.{items_by}
use Rattle.lr_states.proofs.successors.successors.Given as goal

-- the steps of the items so far are pushed
abbrev pub invariant-loop-item : goal.invariant-loop-item
invariant-loop-item l = (node : ℕ) → items_by l.steps.items node ≡ items_after (core l.grammar) (take l.item-index l.items) node
