use Rattle.std.proofs.Common.{◌<◌, None, Contains, length, slice_set, get_or, arith, refl, sym, subst, ◌∙◌, length-set}
use Rattle.std.proofs.lemmas.List.{get_or_default, take_all}
use Rattle.std.proofs.lemmas.List.Elements.{Contains-get_or}
use Rattle.cfgcycles.proofs.Forgetting.{one_forgotten}
use Rattle.cfgcycles.proofs.shortest.Layers.clear.Goals as goal

pub index_mut-requires : goal.index_mut-requires
index_mut-requires c =
    let rules = c.args.rules.now in
    let i = c.loop-rule.rule-index in
    omega (arith, c.requires (get_or rules i 0) (Contains-get_or rules i 0 c.loop-rule-test.true), c.loop-rule.invariant.entries, c.loop-rule.self.found.ok.0)

pub loop-rule-preserved : goal.loop-rule-preserved
loop-rule-preserved c =
    let rules = c.args.rules.now in
    let i = c.loop-rule.rule-index in
    let now = c.loop-rule.self.found.items in
    let rule = get_or rules i 0 in
    let within : rule < length now = subst (λ n. rule < n) (sym c.loop-rule.invariant.entries) (c.requires rule (Contains-get_or rules i 0 c.loop-rule-test.true)) in
    record {
      steps = c.loop-rule.invariant.steps;
      entries = length-set now rule None ∙ c.loop-rule.invariant.entries;
      found = one_forgotten c.args.self.now.found.items now (slice_set now rule None) rules i rule c.loop-rule-test.true
          (get_or_default rules i 0 rule c.loop-rule-test.true) within refl c.loop-rule.invariant.found;
    }

pub returns-clause-found : goal.returns-clause-found
returns-clause-found c = λ rule found is.
    let all = take_all c.loop-rule.rule-index c.args.rules.now (omega (arith, c.loop-rule-test.false)) in
    let w = c.loop-rule.invariant.found rule found is in
    (w.0, λ h. w.1 (subst (λ l. Contains l rule) (sym all) h))
