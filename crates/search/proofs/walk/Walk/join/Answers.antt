use Rattle.std.proofs.Common.{arith, refl, ap}
use Rattle.search.specs.declared.walk.Walk.{Walk}
use Rattle.search.proofs.PathGroups.{dropped_groups, dropped_rising, drops_last, some_group}
use Rattle.search.proofs.walk.Walk.join.Goals as goal

pub loop-self-preserved : goal.loop-self-preserved
loop-self-preserved c =
    let h = c.loop-self-test.ensures.after refl in record {
      kept = ap (λ (x : Walk). record x { groups = c.pop.new.self }) c.loop-self.invariant.kept;
      dropped = drops_last c.args.index c.args.self.now.groups.items c.loop-self.self.groups.items c.pop.new.self.items c.pop.result h.0 _ h.1 h.2
          c.loop-self.self.groups.ok.0 c.pop.ensures.items (c.pop.ensures.value h.0 (omega (arith, c.loop-self.self.groups.ok.0, some_group c.loop-self.self.groups.items h.0 h.1))) c.loop-self.invariant.dropped;
    }

pub returns-clause-rising : goal.returns-clause-rising
returns-clause-rising c = dropped_rising c.args.index c.args.self.now.groups.items c.loop-self.self.groups.items c.loop-self.invariant.dropped c.requires

pub returns-clause-groups : goal.returns-clause-groups
returns-clause-groups c =
    dropped_groups c.args.index c.args.self.now.groups.items c.loop-self.self.groups.items c.loop-self.invariant.dropped c.requires
    (c.loop-self-test.ensures.no_more refl)
