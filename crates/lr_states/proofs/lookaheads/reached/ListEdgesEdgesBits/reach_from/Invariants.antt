use Rattle.std.proofs.Common.{◌≡◌, ℕ, take}
use Rattle.search.specs.Reachable.{FoundBy, Reaches}
use Rattle.lr_states.proofs.lookaheads.reached.ListEdgesEdgesBits.reach_from.Given as goal

-- the nodes so far are reached
abbrev pub invariant-loop-to : goal.invariant-loop-to
invariant-loop-to l = Reaches (FoundBy (λ (to node : ℕ). node ≡ to) (take l.to-index l.to-items)) l.fn.search l.search
