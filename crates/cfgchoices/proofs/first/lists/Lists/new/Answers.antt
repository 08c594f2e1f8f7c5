use Rattle.std.proofs.Common.{◌≡◌, ◌<◌, ◌-◌, Some, None, length, sym, ap, subst, ◌∙◌, arith}
use Rattle.std.proofs.lemmas.List.{get_or_default, length-replicate}
use Rattle.derivation.specs.CostLists.{rule_cost}
use Rattle.cfgleast.specs.Generator.{tables_of}
use Rattle.cfgleast.proofs.Generated.{answered_some}
use Rattle.cfgchoices.specs.Kinds.{IsChain, IsKind}
use Rattle.cfgchoices.specs.Inner.Lists.{AreLists, IsBaseAt}
use Rattle.cfgchoices.specs.declared.kinds.Kind.TheVariants.{Suboptimal}
use Rattle.cfgchoices.proofs.Listed.{listed_none}
use Rattle.cfgchoices.proofs.first.lists.Lists.new.Goals as goal

pub loop-left-init : goal.loop-left-init
loop-left-init g c =
    let number = g.S.Storage.number in
    let x = tables_of number (g.T.Tables.grammar c.args.tables.now) c.args.costs.now c.args.settled.now.least.items c.args.settled.now.choices.items in
    let n = length c.args.kinds.now in
    let all = c.requires.kinds.all in
    let base = c.in_ok-no_productions.ensures in
    let chain = c.in_ok-no_productions-2.ensures in record {
      lists = record {
        base = listed_none number (IsBaseAt x) n _ c.in_ok-no_productions.field-0.items c.in_ok-no_productions-3.field-0.items (λ k p i. subst (λ m. p < m) (sym all) i.0.optimal.index) base;
        chain = listed_none number (λ r p. IsChain x p r) n _ c.in_ok-no_productions-2.field-0.items c.in_ok-no_productions-3.field-0.items (λ k p i. subst (λ m. p < m) (sym all) i.optimal.index) chain;
        costs = λ r d e. subst (λ m. d < m) (sym (ap length base ∙ length-replicate c.costs_len.result None))
            (c.costs_len.ensures r d (subst (λ l. rule_cost l r ≡ Some d) (sym c.deref.ensures.value) (answered_some (rule_cost x.least r) d e).0));
        rules = ap length chain ∙ length-replicate c.from.result None ∙ c.from.ensures ∙ c.rules_len.ensures.value;
        positions = ap length c.in_ok-no_productions-3.ensures ∙ length-replicate n None ∙ all;
      };
      left = omega arith;
    }

pub add-requires-clause-kind : goal.add-requires-clause-kind
add-requires-clause-kind g c =
    let number = g.S.Storage.number in
    let x = tables_of number (g.T.Tables.grammar c.args.tables.now) c.args.costs.now c.args.settled.now.least.items c.args.settled.now.choices.items in
    let i = c.loop-left.left - 1 in
    let kind = c.index-kinds-left.result in
    let within : i < length c.args.kinds.now = omega (arith, c.loop-left-test.true, c.loop-left.invariant.left) in
    subst (λ p. IsKind number x p kind) (sym c.to_storage.ensures)
    (subst (IsKind number x i) (get_or_default c.args.kinds.now i Suboptimal kind within ∙ sym c.index-kinds-left.is) (c.requires.kinds.each i within))

pub returns : goal.returns
returns g c =
    let number = g.S.Storage.number in
    let x = tables_of number (g.T.Tables.grammar c.args.tables.now) c.args.costs.now c.args.settled.now.least.items c.args.settled.now.choices.items in
    let none : c.loop-left.left ≡ 0 = omega (arith, c.loop-left-test.false) in
    subst (λ n. AreLists number x n c.loop-left.lists) none c.loop-left.invariant.lists
