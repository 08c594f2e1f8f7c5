use Rattle.search.proofs.Walking.{hands, no_path, stays_entered}
use Rattle.search.proofs.walk.Walk.walk_from.Goals as goal

pub follow-requires-clause-walk : goal.follow-requires-clause-walk
follow-requires-clause-walk g c = record {
  are = hands _ _ _ _ _ _ _ c.requires.walk.are c.requires.groups _;
  targets = c.requires.walk.targets;
}

pub follow-requires-clause-leads : goal.follow-requires-clause-leads
follow-requires-clause-leads g c = λ i lt. absurd (no_path _ _ _ _ _ _ _ c.requires.walk.are c.requires.groups i lt)

pub loop-group-preserved : goal.loop-group-preserved
loop-group-preserved g c = record {
  walk = c.in_ok-go_on.ensures.walk;
  known = λ node new. c.loop-group.invariant.known node (c.in_ok-go_on.ensures.known node new);
  node = stays_entered _ _ c.args.node c.in_ok-go_on.ensures.known c.loop-group.invariant.node;
}
