use Rattle.std.proofs.Common.{◌<◌, [], arith, sym, subst}
use Rattle.std.proofs.lemmas.List.{take_all}
use Rattle.std.proofs.lemmas.List.Elements.{Contains-get_or}
use Rattle.cfgchoices.specs.Kinds.{production_numbers}
use Rattle.cfgcosts.proofs.Components.{AreOptimal, optimal_more, optimal_none}
use Rattle.cfgcosts.proofs.generator.SentenceGenerator.optimal_productions.Goals as goal

pub loop-rule-init : goal.loop-rule-init
loop-rule-init g c = subst (λ l. AreOptimal c.args.self.now [] (production_numbers g.S.Storage.number l)) (sym c.new-optimal.ensures.items) (optimal_none c.args.self.now)

pub to_storage-requires : goal.to_storage-requires
to_storage-requires g c =
    let within = c.requires _ (Contains-get_or c.args.rules.now c.loop-rule.rule-index 0 c.loop-rule-test.true) in
    omega (arith, within, c.invariant_holds.ensures.rules)

pub push_optimal-requires : goal.push_optimal-requires
push_optimal-requires g c = subst (λ r. r < c.args.self.now.grammar.rules) (sym c.to_storage.ensures)
    (c.requires _ (Contains-get_or c.args.rules.now c.loop-rule.rule-index 0 c.loop-rule-test.true))

pub loop-rule-preserved : goal.loop-rule-preserved
loop-rule-preserved g c = optimal_more c.args.self.now c.args.rules.now c.loop-rule.rule-index _ _ _ c.loop-rule-test.true c.to_storage.ensures c.loop-rule.invariant
    c.in_ok-push_optimal.ensures

pub returns : goal.returns
returns g c = subst (λ l. AreOptimal c.args.self.now l (production_numbers g.S.Storage.number c.loop-rule.optimal.items))
    (take_all c.loop-rule.rule-index c.args.rules.now c.loop-rule-test.false) c.loop-rule.invariant
