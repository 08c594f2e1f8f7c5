use Rattle.std.proofs.Common.{◌≡◌, ℕ, ◌<◌, [], false}
use Rattle.search.specs.Inner.Walk.{IsWalk, is_new, known_of}
use Rattle.search.proofs.components.Components.of.Given as goal

abbrev pub invariant-loop-node : goal.invariant-loop-node
invariant-loop-node g l = record {
  walk : IsWalk (g.E.Edges.leads l.edges) l.nodes l.walk [];
  groups : l.walk.groups.items ≡ [];
  entered : (k : ℕ) → k < l.node → is_new (known_of l.walk.known.items k) ≡ false;
}
