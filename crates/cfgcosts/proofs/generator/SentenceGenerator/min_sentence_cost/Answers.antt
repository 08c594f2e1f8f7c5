use Rattle.std.proofs.Common.{◌≡◌, None, Some, ap, cond, get_or, sym, subst, ◌∙◌, arith}
use Rattle.std.proofs.lemmas.Bool.{lt-leb}
use Rattle.derivation.specs.CostLists.{rule_cost}
use Rattle.cfgleast.specs.Generator.{CostTables, IsGenerator, up_to_limit}
use Rattle.cfgleast.proofs.Generated.{entry_read, reads_none, reads_cost, reads_too_large, some_answered}
use Rattle.cfgcosts.proofs.generator.SentenceGenerator.min_sentence_cost.Given.{Over}
use Rattle.cfgcosts.proofs.generator.SentenceGenerator.min_sentence_cost.Goals.{After-index}
use Rattle.cfgcosts.proofs.generator.SentenceGenerator.min_sentence_cost.Goals as goal

is : (g : Over) (c : After-index g) → IsGenerator c.args.self.now c.self.inside.settled.number
is g c = subst (λ (x : CostTables). IsGenerator x c.self.inside.settled.number) c.self.view_is c.self.invariant.0

read : (g : Over) (c : After-index g) → rule_cost c.args.self.now.least (g.S.Storage.number c.args.rule.0) ≡ c.index.result.now
read g c =
    let entry = c.index.result.now in
    let least = c.self.inside.settled.least.items in
    entry_read c.args.self.now c.self.inside.settled.number (is g c) least (g.S.Storage.number c.args.rule.0) entry (ap (λ (x : CostTables). x.least) c.self.view_is) c.requires
    (subst (λ i. entry ≡ get_or least i entry) c.from.ensures c.index.ensures)

pub returns-in-Some : goal.returns-in-Some
returns-in-Some g c =
    let at = (goal.at.returns-in-Some g c).After-index in
    let known = read g at ∙ c.in-Some.is in
    let a = reads_cost c.args.self.now c.self.inside.settled.number (is g at) (g.S.Storage.number c.args.rule.0) c.in-Some.cost known (omega (arith, c.if-cost-lt-TOO_LARGE.true)) in
    record { least = a.least; found = a.found; none = a.none; too_large = a.too_large; answer = sym (some_answered _ c.in-Some.cost known (omega (arith, c.if-cost-lt-TOO_LARGE.true))) }

pub returns-in-Some-2 : goal.returns-in-Some-2
returns-in-Some-2 g c =
    let at = (goal.at.returns-in-Some-2 g c).After-index in
    let known = read g at ∙ c.in-Some.is in
    let a = reads_too_large c.args.self.now c.self.inside.settled.number (is g at) (g.S.Storage.number c.args.rule.0) c.in-Some.cost known (omega (arith, c.if-cost-lt-TOO_LARGE.false)) in
    record {
      least = a.least;
      found = a.found;
      none = a.none;
      too_large = a.too_large;
      answer = sym (ap up_to_limit known ∙ ap (λ b. cond b (Some c.in-Some.cost) None) (lt-leb c.in-Some.cost 65535 (omega (arith, c.if-cost-lt-TOO_LARGE.false))));
    }

pub returns-in-None : goal.returns-in-None
returns-in-None g c =
    let at = (goal.at.returns-in-None g c).After-index in
    let known = read g at ∙ c.in-None.is in
    let a = reads_none c.args.self.now c.self.inside.settled.number (is g at) (g.S.Storage.number c.args.rule.0) known in
    record { least = a.least; found = a.found; none = a.none; too_large = a.too_large; answer = sym (ap up_to_limit known) }
