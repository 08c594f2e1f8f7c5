use Rattle.std.proofs.Common.{take}
use Rattle.search.specs.Reachable.{FoundBy}
use Rattle.lr_states.specs.Inner.Reached.{IsInRow, TurnsOn}
use Rattle.lr_states.proofs.lookaheads.reached.add_rows.Given as goal

abbrev pub invariant-loop-node : goal.invariant-loop-node
invariant-loop-node l = TurnsOn (FoundBy (IsInRow l.numbers l.rows) (take l.node-index l.nodes)) l.fn.row l.row
