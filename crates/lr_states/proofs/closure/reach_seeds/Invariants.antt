use Rattle.std.proofs.Common.{take}
use Rattle.search.specs.Reachable.{FoundBy, Reaches}
use Rattle.cfgrammar.specs.Grammar.{Rule}
use Rattle.cfgrammar.specs.Numbered.{core}
use Rattle.lr_states.specs.Viable.{HasNext}
use Rattle.lr_states.proofs.closure.reach_seeds.Given as goal

-- the rules that are next in the items so far are reached
abbrev pub invariant-loop-item : goal.invariant-loop-item
invariant-loop-item l = Reaches (FoundBy (λ item r. HasNext (core l.grammar) item (Rule r)) (take l.item-index l.kernel)) l.fn.search l.search
