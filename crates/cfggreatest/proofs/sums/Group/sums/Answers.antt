use Rattle.std.proofs.Common.{inl, inr, Contains, get_or, subst, sym, arith}
use Rattle.std.specs.List.{slice_index}
use Rattle.std.proofs.lemmas.List.{get_or_default, take_all}
use Rattle.std.proofs.lemmas.List.Elements.{Contains-get_or}
use Rattle.std.proofs.lemmas.Result.{err_from_is_err_and}
use Rattle.lemmas.proofs.Taken.{contains_taken}
use Rattle.derivation.specs.Grammar.{HasProduction}
use Rattle.cfggreatest.specs.Inner.Sums.{AreReached, AreUnder, known_in}
use Rattle.cfggreatest.proofs.Reaching.{none_reached, under_more_all}
use Rattle.cfggreatest.proofs.sums.Group.sums.Goals as goal

pub loop-rule-init : goal.loop-rule-init
loop-rule-init g c = record {
  reached = subst (AreReached (HasProduction (g.T.Tables.grammar c.args.grm.now)) (slice_index c.args.self.now.costs.now) c.args.rules.now) (sym c.new-sums.ensures)
      (none_reached (g.T.Tables.grammar c.args.grm.now) (slice_index c.args.self.now.costs.now) c.args.self.now.productive.now (known_in c.args.self.now) c.args.rules.now
      c.requires.group.is c.requires.words);
  under = λ r among. absurd (let lt = among.1 in omega (arith, lt));
}

pub take_rule-requires-clause-among : goal.take_rule-requires-clause-among
take_rule-requires-clause-among g c = Contains-get_or c.args.rules.now c.loop-rule.rule-index 0 c.loop-rule-test.true

pub take_rule-requires-clause-within : goal.take_rule-requires-clause-within
take_rule-requires-clause-within g c = c.requires.within _ (Contains-get_or c.args.rules.now c.loop-rule.rule-index 0 c.loop-rule-test.true)

pub loop-rule-preserved : goal.loop-rule-preserved
loop-rule-preserved g c =
    let P = HasProduction (g.T.Tables.grammar c.args.grm.now) in
    let cost = slice_index c.args.self.now.costs.now in
    let productive = c.args.self.now.productive.now in
    let known = known_in c.args.self.now in
    let rules = c.args.rules.now in
    let i = c.loop-rule.rule-index in
    record {
      reached = c.in_ok-take_rule.ensures.reached;
      under = λ r among. elim ((contains_taken rules i (get_or rules i 0) c.loop-rule-test.true (get_or_default rules i 0 (get_or rules i 0) c.loop-rule-test.true) r).0 among) [
        | inl before ↦ λ a has. under_more_all cost known productive a P _ _ c.in_ok-take_rule.ensures.more (c.loop-rule.invariant.under r before a has)
        | inr here ↦ subst (λ q. AreUnder P cost known productive q c.take_rule.new.sums) (sym here) c.in_ok-take_rule.ensures.under
      ];
    }

pub returns-in_err-take_rule : goal.returns-in_err-take_rule
returns-in_err-take_rule g c = let p = err_from_is_err_and c.from_residual.result c.from_residual.ensures.1 in rw p.1 c.in_err-take_rule.ensures.grows

pub returns : goal.returns
returns g c = (
  c.loop-rule.invariant.reached,
  λ r among. c.loop-rule.invariant.under r
      (subst (λ l. Contains l r) (sym (take_all c.loop-rule.rule-index c.args.rules.now (omega (arith, c.loop-rule-test.false)))) among),
)
