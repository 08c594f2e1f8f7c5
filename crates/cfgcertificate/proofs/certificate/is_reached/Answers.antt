use Rattle.std.proofs.Common.{◌≡◌, map, length, refl, subst, sym, ap, ◌∙◌, List, All, Some, true≢false}
use Rattle.derivation.specs.Grammar.{Sym}
use Rattle.derivation.specs.CostLists.{sum_by_lists}
use Rattle.cfgleast.specs.Certificate.{IsChosenBelow, choice_of}
use Rattle.cfgleast.proofs.Certified.{production_listed, reached_none, reached_not, shown_from_reached, reached_from_shown}
use Rattle.cfgcertificate.proofs.certificate.is_reached.Goals as goal

pub returns-in_default : goal.returns-in_default
returns-in_default g c = (
  (λ _. reached_none (g.T.Tables.grammar c.args.grm.now) c.args.costs.now c.args.least.now (map (choice_of g.S.Storage.number) c.args.choices.now) c.args.rule
      (sym c.least_cost.ensures ∙ c.in_default.is)),
  (λ _. refl),
)

pub returns-in_default-choice_at : goal.returns-in_default-choice_at
returns-in_default-choice_at g c = (
  (λ h. absurd (true≢false (sym h))),
  (λ h. absurd (reached_not (g.T.Tables.grammar c.args.grm.now) c.args.costs.now c.args.least.now (map (choice_of g.S.Storage.number) c.args.choices.now) c.args.rule
      c.in-Some.cost (sym c.least_cost.ensures ∙ c.in-Some.is) (sym c.choice_at.ensures ∙ ap (choice_of g.S.Storage.number) c.in_default-choice_at.is) h)),
)

pub returns-then-not-is_production_of : goal.returns-then-not-is_production_of
returns-then-not-is_production_of g c =
    let grammar = g.T.Tables.grammar c.args.grm.now in
    let choices = map (choice_of g.S.Storage.number) c.args.choices.now in
    let cost_is = sym c.least_cost.ensures ∙ c.in-Some.is in
    let choice_is = sym c.in-Some-choice_at.ensures in (
      (λ h. absurd (true≢false (sym h))),
      (λ h. let rests = shown_from_reached grammar c.args.costs.now c.args.least.now choices c.args.rule c.in-Some.cost _ cost_is choice_is h in
          sym c.if-not-is_production_of.true ∙ c.is_production_of.ensures.found rests.index rests.owner),
    )

pub costs_just-requires : goal.costs_just-requires
costs_just-requires g c =
    production_listed (g.T.Tables.grammar c.args.grm.now) (g.S.Storage.number c.in-Some-choice_at.p.0) (length c.args.least.now) (length c.args.costs.now) _
    c.requires.content (c.is_production_of.ensures.index c.if-not-is_production_of.false) c.requires.least c.requires.costs c.prod-symbols.ensures

pub are_chosen_below-requires : goal.are_chosen_below-requires
are_chosen_below-requires g c =
    let grammar = g.T.Tables.grammar c.args.grm.now in (
      grammar.tokens,
      production_listed grammar (g.S.Storage.number c.in-Some-choice_at.p.0) (length c.args.choices.now) grammar.tokens _
          c.requires.content (c.is_production_of.ensures.index c.if-not-is_production_of.false) c.requires.choices refl c.prod-symbols.ensures,
    )

pub returns-then-costs_just : goal.returns-then-costs_just
returns-then-costs_just g c =
    let grammar = g.T.Tables.grammar c.args.grm.now in
    let choices = map (choice_of g.S.Storage.number) c.args.choices.now in
    let below = IsChosenBelow choices c.in-Some-choice_at.number in
    let sum = λ (a : List Sym). sum_by_lists c.args.costs.now c.args.least.now a ≡ Some c.in-Some.cost in
    let cost_is = sym c.least_cost.ensures ∙ c.in-Some.is in
    let choice_is = sym c.in-Some-choice_at.ensures in (
      (λ h. reached_from_shown grammar c.args.costs.now c.args.least.now choices c.args.rule c.in-Some.cost _ cost_is choice_is (record {
        index = c.is_production_of.ensures.index c.if-not-is_production_of.false;
        owner = c.is_production_of.ensures.owner c.if-not-is_production_of.false;
        sum = subst sum c.prod-symbols.ensures (c.costs_just.ensures.0 c.if-costs_just.true);
        below = subst (All below) c.prod-symbols.ensures (c.are_chosen_below.ensures.0 h);
      })),
      (λ h. let rests = shown_from_reached grammar c.args.costs.now c.args.least.now choices c.args.rule c.in-Some.cost _ cost_is choice_is h in
          c.are_chosen_below.ensures.1 (subst (All below) (sym c.prod-symbols.ensures) rests.below)),
    )

pub returns-else-costs_just : goal.returns-else-costs_just
returns-else-costs_just g c =
    let grammar = g.T.Tables.grammar c.args.grm.now in
    let choices = map (choice_of g.S.Storage.number) c.args.choices.now in
    let sum = λ (a : List Sym). sum_by_lists c.args.costs.now c.args.least.now a ≡ Some c.in-Some.cost in
    let cost_is = sym c.least_cost.ensures ∙ c.in-Some.is in
    let choice_is = sym c.in-Some-choice_at.ensures in (
      (λ h. absurd (true≢false (sym h ∙ c.if-costs_just.false))),
      (λ h. let rests = shown_from_reached grammar c.args.costs.now c.args.least.now choices c.args.rule c.in-Some.cost _ cost_is choice_is h in
          c.costs_just.ensures.1 (subst sum (sym c.prod-symbols.ensures) rests.sum)),
    )
