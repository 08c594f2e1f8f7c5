use Rattle.std.proofs.Common.{arith, refl, sym, ap, subst, ◌∙◌}
use Rattle.std.proofs.lemmas.Grind.{common_steps}
use Rattle.derivation.specs.Grammar.{HasProduction}
use Rattle.cfgleast.specs.Certificate.{rule_choice}
use Rattle.cfgleast.specs.Generator.{CostTables, IsGenerator, token_cost, where_some}
use Rattle.cfgleast.proofs.Generated.{choice_none, choice_read, choice_shown, refused}
use Rattle.cfgcosts.proofs.generator.SentenceGenerator.choice.Goals as goal

pub returns-in-Ok : goal.returns-in-Ok
returns-in-Ok g c =
    let x = c.args.self.now in
    let r = g.S.Storage.number c.args.rule.0 in
    let n = c.self.inside.settled.number in
    let is = subst (λ (x : CostTables). IsGenerator x n) c.self.view_is c.self.invariant.0 in
    let listed = ap (λ (x : CostTables). x.choices) c.self.view_is in
    let shown = choice_shown x n is g.S.Storage.number c.self.inside.settled.choices.items r c.from.result c.index.result.now listed c.requires c.from.ensures c.index.ensures in
    record {
      production = choice_read x n is g.S.Storage.number r c.in-Ok.field-0 c.index.result.now c.in-Ok.ensures.answer shown;
      none = choice_none x n is g.S.Storage.number r c.in-Ok.field-0 c.index.result.now c.in-Ok.ensures.answer shown;
      answer = sym shown ∙ ap (λ o. where_some o (rule_choice x.choices r)) c.in-Ok.ensures.answer;
    }

pub returns-in-Err-clause-none : goal.returns-in-Err-clause-none
returns-in-Err-clause-none g c =
    let e = c.in-Err.ensures in (
      (λ _. refused (HasProduction c.args.self.now.grammar) (token_cost c.args.self.now) (g.S.Storage.number c.args.rule.0) c.in-Err.field-0
          (record { least = tt; found = e.found; none = e.none; too_large = e.too_large })),
      (λ _. refl),
    )

pub returns-in-Err-clause-answer : goal.returns-in-Err-clause-answer
returns-in-Err-clause-answer g c = ap (λ o. where_some o (rule_choice c.args.self.now.choices (g.S.Storage.number c.args.rule.0))) c.in-Err.ensures.answer

pub index-requires : goal.index-requires
index-requires g c = grind (arith, common_steps)

pub returns-in-Err-clause-production : goal.returns-in-Err-clause-production
returns-in-Err-clause-production g c = tt
