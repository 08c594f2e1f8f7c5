use Rattle.std.proofs.Common.{◌≡◌, get_or, map, refl, subst, ◌∙◌, arith}
use Rattle.std.specs.List.{slice_index}
use Rattle.cfgtables.specs.Openings.{nth_production}
use Rattle.cfgtables.specs.NumberedSymbols.{sym_of}
use Rattle.derivation.specs.CostLists.{rule_cost}
use Rattle.cfgleast.specs.Generator.{tables_of}
use Rattle.cfgchoices.specs.Inner.SequenceKinds.{IsSequenceKind}
use Rattle.cfgleast.proofs.Generated.{entry_read}
use Rattle.cfgleast.proofs.Settles.{owner_within}
use Rattle.cfgchoices.proofs.Optimal.{kind_reported}
use Rattle.cfgchoices.proofs.kinds.kind_of.Goals as goal

pub returns-in-Some : goal.returns-in-Some
returns-in-Some g c =
    let number = g.S.Storage.number in
    let grammar = g.T.Tables.grammar c.args.tables.now in
    let least = c.args.settled.now.least.items in
    let x = tables_of number grammar c.args.costs.now least c.args.settled.now.choices.items in
    let p = number c.args.p.0 in
    let rule = (nth_production grammar p).rule in
    let at = subst (λ m. c.index.result.now ≡ get_or least m c.index.result.now) (c.from-rule.ensures ∙ c.prod_to_rule.ensures) c.index.ensures in
    let entry = entry_read x _ c.requires.generator least rule c.index.result.now refl (owner_within grammar p c.invariant_holds.ensures.content c.requires.index) at in
    kind_reported x _ c.requires.generator c.invariant_holds.ensures.content p c.in-Some.cost c.requires.index (entry ∙ c.in-Some.is) (omega (arith, c.if-cost-gt0.true)) (omega (arith, c.if-cost-lt-TOO_LARGE.true)) number c.sequence_kind.result
    (subst (λ a. IsSequenceKind number (slice_index c.args.costs.now) (rule_cost least) c.in-Some.cost a c.sequence_kind.result) c.prod.ensures
    (subst (λ l. IsSequenceKind number (slice_index c.args.costs.now) (rule_cost l) c.in-Some.cost (map (sym_of number) c.prod.result.now) c.sequence_kind.result) c.deref.ensures.value c.sequence_kind.ensures))
