use Rattle.std.proofs.Common.{◌≡◌, ◌<◌, ℕ, false, [], get_or, slice_index, arith, subst, sym, below_more, length}
use Rattle.search.specs.Components.{AreMembers}
use Rattle.search.specs.Inner.Walk.{IsWalk, is_new, known_of}
use Rattle.search.proofs.Walking.{all_settled, known_as, nothing_known, numbers_below, stays_entered}
use Rattle.search.proofs.components.Components.of.Goals as goal

pub loop-node-init : goal.loop-node-init
loop-node-init g c =
    let made = c.in_ok-walk.ensures in record {
      walk = record {
        are = known_as made.known made.path made.groups made.pending made.count (nothing_known (g.E.Edges.leads c.args.edges.now) c.args.nodes);
        targets = made.targets;
      };
      groups = made.groups;
      entered = λ k lt. absurd (omega (arith, lt));
    }

pub walk_from-requires-clause-walk : goal.walk_from-requires-clause-walk
walk_from-requires-clause-walk g c = subst (λ n. IsWalk (g.E.Edges.leads c.args.edges.now) n c.loop-node.walk []) c.requires c.loop-node.invariant.walk

pub loop-node-preserved : goal.loop-node-preserved
loop-node-preserved g c =
    let more = c.in_ok-walk_from.ensures in
    let now = c.walk_from.new.self.known.items in record {
      walk = subst (λ n. IsWalk (g.E.Edges.leads c.args.edges.now) n c.walk_from.new.self []) (sym c.requires) more.walk;
      groups = more.groups;
      entered = below_more (λ k. is_new (known_of now k) ≡ false) c.loop-node.node
          (λ k lt. stays_entered c.loop-node.walk.known.items now k more.known (c.loop-node.invariant.entered k lt)) more.node;
    }

pub members_of-requires : goal.members_of-requires
members_of-requires g c =
    let inv = c.loop-node.invariant in
    subst (λ l. (n : ℕ) → n < length l → slice_index l n < c.loop-node.walk.count) (sym c.deref.ensures.value)
    (numbers_below _ _ _ _ _ _ _ inv.walk.are inv.groups (λ k lt. inv.entered k (omega (arith, lt, c.loop-node-test.false))) _ c.in_ok-numbers.ensures)

pub returns : goal.returns
returns g c =
    let inv = c.loop-node.invariant in
    let members = c.in_ok-members.members in
    all_settled _ _ _ _ _ _ _ inv.walk.are inv.groups (λ k lt. inv.entered k (omega (arith, lt, c.loop-node-test.false))) _ c.in_ok-numbers.ensures
    members c.in_ok-members.ensures.lists
    (subst (λ l. (n : ℕ) → AreMembers l (length l) n (get_or members n [])) c.deref.ensures.value c.in_ok-members.ensures.members)
