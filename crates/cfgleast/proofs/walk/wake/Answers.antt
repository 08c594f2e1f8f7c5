use Rattle.std.proofs.Common.{get_or, arith, ◌∙◌}
use Rattle.std.specs.List.{slice_index}
use Rattle.std.proofs.lemmas.List.{get_or_default}
use Rattle.cfgleast.specs.declared.partial.Partial.{Partial}
use Rattle.derivation.specs.CostLists.{rule_cost}
use Rattle.cfgleast.proofs.Walked.{wake_more, wake_all, lists_moved, count_moved}
use Rattle.cfgleast.proofs.walk.wake.Goals as goal

pub loop-partial-preserved : goal.loop-partial-preserved
loop-partial-preserved g c =
    let grammar = g.T.Tables.grammar c.args.grm.now in
    let cost = slice_index c.args.costs.now in
    let settled = rule_cost c.args.least.now in
    let moves = c.in_ok-advance.ensures.moves in
    let none : Partial = record { production = 0; taken = 0; sum = 0 } in
    let entry = get_or c.args.woken.now c.loop-partial.partial-index none in
    record {
      waking = wake_more cost settled grammar c.loop-partial.partial-index entry c.args.woken.now _ _ _ _ c.loop-partial-test.true
          (get_or_default c.args.woken.now c.loop-partial.partial-index none entry c.loop-partial-test.true) c.loop-partial.invariant.waking moves;
      bests = c.in_ok-advance.ensures.bests;
      lists = lists_moved cost settled grammar _ _ _ _ _ moves ∙ c.loop-partial.invariant.lists;
      count = omega (arith, count_moved cost settled grammar _ _ _ _ _ moves, c.loop-partial.invariant.count);
    }

pub returns-clause-state : goal.returns-clause-state
returns-clause-state g c = wake_all (slice_index c.args.costs.now) (rule_cost c.args.least.now) (g.T.Tables.grammar c.args.grm.now) c.loop-partial.partial-index c.args.woken.now _ _
    c.loop-partial-test.false c.loop-partial.invariant.waking
