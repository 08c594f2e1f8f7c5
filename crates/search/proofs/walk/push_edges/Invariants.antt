use Rattle.std.proofs.Common.{length}
use Rattle.search.proofs.Pushing.{Adding}
use Rattle.search.proofs.walk.push_edges.Given as goal

abbrev pub invariant-loop-to : goal.invariant-loop-to
invariant-loop-to g l = Adding (g.E.Edges.leads l.edges l.node) (g.E.Edges.nodes l.edges) l.from l.fn.pending.items l.targets l.pending.items

abbrev pub decreases-loop-to : goal.decreases-loop-to
decreases-loop-to g l = length l.targets.waiting
