use Rattle.std.proofs.Common.{◌≡◌, ◌++◌, ◌<◌, List, Contains, length}
use Rattle.search.specs.declared.walk.Group.{Group}
use Rattle.search.proofs.walk.Walk.join.Given as goal

abbrev pub invariant-loop-self : goal.invariant-loop-self
invariant-loop-self l = record {
  kept : l.self ≡ record l.fn.self { groups = l.self.groups };
  dropped : (after : List Group) × (l.fn.self.groups.items ≡ l.self.groups.items ++ after) × ((g : Group) → Contains after g → l.index < g.start);
}

abbrev pub decreases-loop-self : goal.decreases-loop-self
decreases-loop-self l = length l.self.groups.items
