use Rattle.std.proofs.Common.{ℕ, ◌<◌, get_or}
use Rattle.cfgrammar.specs.Grammar.{Rule}
use Rattle.cfgrammar.specs.Numbered.{core}
use Rattle.lr_states.specs.Viable.{HasNext, item_at}
use Rattle.lr_states.proofs.closure.has_seed.Given as goal

-- no rule is next in the items so far
abbrev pub invariant-loop-item : goal.invariant-loop-item
invariant-loop-item l = (k rule : ℕ) → k < l.item-index → HasNext (core l.grammar) (get_or l.kernel k (item_at 0 0)) (Rule rule) → ⊥
