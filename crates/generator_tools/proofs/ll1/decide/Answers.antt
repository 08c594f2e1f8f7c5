use Rattle.std.proofs.Common.{subst, sym}
use Rattle.cfgrammar.specs.Numbered.{core}
use Rattle.generator_tools.proofs.Entries.{IsFound, found_again, found_none, found_unused, found_used, no_entry, one_entry}
use Rattle.generator_tools.proofs.Listed.{lists_shown, shown_at, shown_end, shown_within}
use Rattle.generator_tools.proofs.ll1.decide.Goals as goal
use Rattle.generator_tools.proofs.ll1.decide.Goals.{then-is_used+in-None, else-is_used}

pub loop-pidx-init : goal.loop-pidx-init
loop-pidx-init g c = found_none (core c.args.grammar.now) _ _ _ g.S.Storage.number 0

pub loop-pidx-preserved : goal.loop-pidx-preserved
loop-pidx-preserved g c =
    let number = g.S.Storage.number in
    let items = c.rule_to_prods-pidx-items in
    let own = lists_shown number c.args.grammar.now (number c.args.rule.0) _ c.invariant_holds.ensures.listed_once items.ensures.value items.ensures.within in
    let is = shown_at (λ p. number p.0) items.result.now _ _ c.loop-pidx-test.true c.pidx-item.is in
    let within = shown_within (λ p. number p.0) items.result.now _ c.loop-pidx-test.true in
    elim c.if-is_used.branch [
      | then-is_used+in-None w ↦
          let none = subst (IsFound (core c.args.grammar.now) _ _ _ number _) w.in-None.is c.loop-pidx.invariant in
          subst (IsFound (core c.args.grammar.now) _ _ _ number _) (sym w.used-is)
          (found_used (core c.args.grammar.now) _ _ _ own number _ _ within is _ c.is_used.ensures none w.if-is_used.true)
      | else-is_used w ↦
          subst (IsFound (core c.args.grammar.now) _ _ _ number _) (sym w.used-is)
          (found_unused (core c.args.grammar.now) _ _ _ own number _ _ within is _ c.is_used.ensures _ c.loop-pidx.invariant w.if-is_used.false)
    ]

pub returns-in-Some : goal.returns-in-Some
returns-in-Some g c =
    let number = g.S.Storage.number in
    let items = c.rule_to_prods-pidx-items in
    let own = lists_shown number c.args.grammar.now (number c.args.rule.0) _ c.invariant_holds.ensures.listed_once items.ensures.value items.ensures.within in
    let is = shown_at (λ p. number p.0) items.result.now _ _ c.loop-pidx-test.true c.pidx-item.is in
    let within = shown_within (λ p. number p.0) items.result.now _ c.loop-pidx-test.true in
    let one = subst (IsFound (core c.args.grammar.now) _ _ _ number _) c.in-Some.is c.loop-pidx.invariant in
    found_again (core c.args.grammar.now) _ _ _ own number _ _ within is _ c.is_used.ensures _ one c.if-is_used.true

pub returns-in-None-used : goal.returns-in-None-used
returns-in-None-used g c =
    let number = g.S.Storage.number in
    let items = c.rule_to_prods-pidx-items in
    let own = lists_shown number c.args.grammar.now (number c.args.rule.0) _ c.invariant_holds.ensures.listed_once items.ensures.value items.ensures.within in
    let none = subst (IsFound (core c.args.grammar.now) _ _ _ number _) c.in-None-used.is c.loop-pidx.invariant in
    no_entry (core c.args.grammar.now) _ _ _ own number _ (shown_end (λ p. number p.0) items.result.now _ c.loop-pidx-test.false) none

pub returns-in-Some-used : goal.returns-in-Some-used
returns-in-Some-used g c =
    let number = g.S.Storage.number in
    let items = c.rule_to_prods-pidx-items in
    let own = lists_shown number c.args.grammar.now (number c.args.rule.0) _ c.invariant_holds.ensures.listed_once items.ensures.value items.ensures.within in
    let one = subst (IsFound (core c.args.grammar.now) _ _ _ number _) c.in-Some-used.is c.loop-pidx.invariant in
    one_entry (core c.args.grammar.now) _ _ _ own number _ _ (shown_end (λ p. number p.0) items.result.now _ c.loop-pidx-test.false) one
