use Rattle.std.proofs.Common.{◌<◌, ◌≤◌, length, arith, refl, ◌∙◌}
use Rattle.std.specs.List.{slice_index}
use Rattle.derivation.specs.CostLists.{rule_cost}
use Rattle.cfgleast.proofs.Walked.{start_more, lists_moved, all_open}
use Rattle.cfgleast.proofs.walk.start.Goals as goal

pub loop-number-preserved : goal.loop-number-preserved
loop-number-preserved g c =
    let grammar = g.T.Tables.grammar c.args.grm.now in
    let cost = slice_index c.args.costs.now in
    let settled = rule_cost c.args.least.now in
    let within : c.loop-number.number < length grammar.productions = omega (arith, c.loop-number-test.true, c.requires.prods) in
    record {
      state = start_more cost settled grammar c.loop-number.number _ _ _ _ _ within refl c.loop-number.invariant.state c.in_ok-advance.ensures.moves;
      bests = c.in_ok-advance.ensures.bests;
      lists = lists_moved cost settled grammar _ _ _ _ _ c.in_ok-advance.ensures.moves ∙ c.loop-number.invariant.lists;
    }

pub returns-clause-state : goal.returns-clause-state
returns-clause-state g c =
    let grammar = g.T.Tables.grammar c.args.grm.now in
    let past : length grammar.productions ≤ c.loop-number.number = omega (arith, c.loop-number-test.false, c.requires.prods) in
    all_open (slice_index c.args.costs.now) (rule_cost c.args.least.now) grammar _ _ (λ q. c.loop-number.number ≤ q) 0 (λ q within h. omega (arith, within, h, past))
    c.loop-number.invariant.state
