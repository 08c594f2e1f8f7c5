use Rattle.std.proofs.Common.{◌≡◌, ◌<◌, List, ℕ, All, length, arith, refl, sym, subst, ◌∙◌}
use Rattle.std.specs.Prelude.{slice_index}
use Rattle.cfggreatest.specs.GreatestCosts.{AreGreatestCosts}
use Rattle.cfgleast.specs.Generator.{IsGeneratorOf, tables_of}
use Rattle.cfgchoices.specs.FirstChoices.{AreFirst, AreChosen}
use Rattle.cfgchoices.specs.Kinds.{AreKinds, HasRulesAsTargets}
use Rattle.cfgcosts.specs.Inner.Targets.{AreTargets, rules_of}
use Rattle.cfgcosts.proofs.generator.SentenceGenerator.new.Given.{Over}
use Rattle.cfgcosts.proofs.generator.SentenceGenerator.new.Goals.{In_ok-settled}
use Rattle.cfgcosts.proofs.generator.SentenceGenerator.new.Goals as goal

generator : (g : Over) (c : In_ok-settled g)
    → IsGeneratorOf g.S.Storage.number (g.T.Tables.grammar c.args.tables.now) c.as_slice-by_token.result.now c.in_ok-settled.settled
generator g c = record {
  tokens = subst (λ (costs : List ℕ). length costs ≡ (g.T.Tables.grammar c.args.tables.now).tokens) (sym c.as_slice-by_token.ensures.value)
      (c.in_ok-costs.ensures.len ∙ c.to_usize-tokens_len.ensures.value ∙ c.tokens_len.ensures);
  positive = subst (All (λ c. 0 < c)) (sym c.as_slice-by_token.ensures.value) c.in_ok-costs.ensures.positive;
  settled = c.in_ok-settled.ensures;
}

pub settle-requires : goal.settle-requires
settle-requires g c = subst (λ (costs : List ℕ). length costs ≡ (g.T.Tables.grammar c.args.tables.now).tokens) (sym c.as_slice-by_token.ensures.value)
    (c.in_ok-costs.ensures.len ∙ c.to_usize-tokens_len.ensures.value ∙ c.tokens_len.ensures)

pub kinds-requires : goal.kinds-requires
kinds-requires g c = generator g (goal.at.kinds-requires g c).In_ok-settled

pub first_choices-requires-clause-generator : goal.first_choices-requires-clause-generator
first_choices-requires-clause-generator g c = generator g (goal.at.first_choices-requires-clause-generator g c).In_ok-settled

pub first_choices-requires-clause-kinds : goal.first_choices-requires-clause-kinds
first_choices-requires-clause-kinds g c =
    let settled = c.in_ok-settled.settled in
    subst (AreKinds g.S.Storage.number (tables_of g.S.Storage.number (g.T.Tables.grammar c.args.tables.now) c.as_slice-by_token.result.now settled.least.items settled.choices.items))
    (sym c.as_slice-by_production.ensures.value) c.in_ok-kinds.ensures.kinds

pub last_targets-requires-clause-kinds : goal.last_targets-requires-clause-kinds
last_targets-requires-clause-kinds g c =
    subst (λ l. length l ≡ length (g.T.Tables.grammar c.args.tables.now).productions) (sym c.as_slice-by_production.ensures.value) c.in_ok-kinds.ensures.kinds.all

pub last_targets-requires-clause-targets : goal.last_targets-requires-clause-targets
last_targets-requires-clause-targets g c =
    subst (HasRulesAsTargets g.S.Storage.number (g.T.Tables.grammar c.args.tables.now)) (sym c.as_slice-by_production.ensures.value) c.in_ok-kinds.ensures.targets

pub greatest_costs-requires-clause-costs : goal.greatest_costs-requires-clause-costs
greatest_costs-requires-clause-costs g c = (generator g (goal.at.greatest_costs-requires-clause-costs g c).In_ok-settled).tokens

pub greatest_costs-requires-clause-positive : goal.greatest_costs-requires-clause-positive
greatest_costs-requires-clause-positive g c = (generator g (goal.at.greatest_costs-requires-clause-positive g c).In_ok-settled).positive

pub invariant_of-result : goal.invariant_of-result
invariant_of-result g c =
    let number = g.S.Storage.number in
    let grammar = g.T.Tables.grammar c.args.tables.now in
    let settled = c.in_ok-settled.settled in
    let least = settled.least.items in
    let firsts = c.in_ok-firsts.firsts.items in (
      subst (λ (costs : List ℕ). IsGeneratorOf number grammar costs settled) c.as_slice-by_token.ensures.value (generator g (goal.at.invariant_of-result g c).In_ok-settled),
      subst (λ (costs : List ℕ). AreGreatestCosts grammar (slice_index costs) c.in_ok-greatest.greatest.items) c.as_slice-by_token.ensures.value c.in_ok-greatest.ensures,
      subst (λ (costs : List ℕ). AreKinds number (tables_of number grammar costs least settled.choices.items) c.in_ok-kinds.kinds.items) c.as_slice-by_token.ensures.value c.in_ok-kinds.ensures.kinds,
      subst (λ (costs : List ℕ). AreChosen (tables_of number grammar costs least firsts)) c.as_slice-by_token.ensures.value c.in_ok-firsts.ensures.walks,
      subst (λ (costs : List ℕ). AreFirst (tables_of number grammar costs least firsts)) c.as_slice-by_token.ensures.value c.in_ok-firsts.ensures.first,
      subst (λ kinds. AreTargets number grammar kinds (rules_of number c.in_ok-last_targets.last_targets.items)) c.as_slice-by_production.ensures.value c.in_ok-last_targets.ensures,
    )

pub returns-clause-costs : goal.returns-clause-costs
returns-clause-costs g c = λ t within. c.in_ok-costs.ensures.costs t (omega (arith, within, c.to_usize-tokens_len.ensures.value, c.tokens_len.ensures))

pub returns-clause-grammar : goal.returns-clause-grammar
returns-clause-grammar g c = refl

pub returns-clause-tokens : goal.returns-clause-tokens
returns-clause-tokens g c = c.in_ok-costs.ensures.len ∙ c.to_usize-tokens_len.ensures.value ∙ c.tokens_len.ensures

pub returns-clause-positive : goal.returns-clause-positive
returns-clause-positive g c = c.in_ok-costs.ensures.positive

pub token_costs-requires-clause-callable : goal.token_costs-requires-clause-callable
token_costs-requires-clause-callable g c = λ t within. c.requires.callable t (omega (arith, within, c.to_usize-tokens_len.ensures.value, c.tokens_len.ensures))

pub token_costs-requires-clause-fits : goal.token_costs-requires-clause-fits
token_costs-requires-clause-fits g c = omega (arith, c.to_usize-tokens_len.ensures.value, c.to_usize-tokens_len.ensures.range)

pub token_costs-requires-clause-positive : goal.token_costs-requires-clause-positive
token_costs-requires-clause-positive g c = λ t n within. c.requires.positive t n (omega (arith, within, c.to_usize-tokens_len.ensures.value, c.tokens_len.ensures))
