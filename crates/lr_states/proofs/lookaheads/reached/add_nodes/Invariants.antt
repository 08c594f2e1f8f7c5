use Rattle.std.proofs.Common.{take}
use Rattle.search.specs.Reachable.{FoundBy}
use Rattle.lr_states.specs.Inner.Reached.{Shows, TurnsOn}
use Rattle.lr_states.proofs.lookaheads.reached.add_nodes.Given as goal

abbrev pub invariant-loop-node : goal.invariant-loop-node
invariant-loop-node l = TurnsOn (FoundBy (Shows l.edges l.numbers l.rows) (take l.node-index l.nodes)) l.fn.row l.row
