use Rattle.std.proofs.Common.{length}
use Rattle.search.specs.Reachable.{IsReachableIn}
use Rattle.search.proofs.Reaching.{Searching, left_to_do}
use Rattle.search.proofs.searching.Search.go_on.Given as goal

abbrev pub invariant-loop-node : goal.invariant-loop-node
invariant-loop-node g l = Searching (length l.fn.self.reachable) (IsReachableIn l.fn.self) (g.E.Edges.leads l.edges) (λ _. Unit {0}) l.self

abbrev pub decreases-loop-node : goal.decreases-loop-node
decreases-loop-node g l = left_to_do l.self
