use Rattle.std.proofs.Common.{◌≡◌, [], false}
use Rattle.search.specs.Inner.Walk.{IsWalk, NoneNew, is_new, known_of, left_to_walk}
use Rattle.search.proofs.walk.Walk.walk_from.Given as goal

abbrev pub invariant-loop-group : goal.invariant-loop-group
invariant-loop-group g l = record {
  walk : IsWalk (g.E.Edges.leads l.edges) (g.E.Edges.nodes l.edges) l.self [];
  known : NoneNew l.fn.self.known.items l.self.known.items;
  node : is_new (known_of l.self.known.items l.node) ≡ false;
}

abbrev pub decreases-loop-group : goal.decreases-loop-group
decreases-loop-group g l = left_to_walk (g.E.Edges.nodes l.edges) l.self
