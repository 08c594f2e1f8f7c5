use Rattle.std.proofs.Common.{◌≡◌, ◌+◌, ◌<◌, get_or, length, take, sym, subst, ◌∙◌, arith}
use Rattle.std.proofs.lemmas.List.{get_or_default, length-map}
use Rattle.cfgtables.proofs.Slices.{mapped_within, mapped_at, mapped_all}
use Rattle.cfgchoices.specs.Kinds.{production_numbers}
use Rattle.cfgchoices.specs.declared.kinds.Kind.TheVariants.{Suboptimal}
use Rattle.lemmas.proofs.Options.{None-from_is_some}
use Rattle.cfgcosts.proofs.OnlyTargets.{OnlyOne, only_ends, only_found, only_suboptimal}
use Rattle.cfgcosts.proofs.targets.only_target.Given.{Over}
use Rattle.cfgcosts.proofs.targets.only_target.Goals.{After-from}
use Rattle.cfgcosts.proofs.targets.only_target.Goals as goal
use Rattle.cfgcosts.proofs.targets.only_target.Goals.{in-Suboptimal, in-Chain}

inside : (g : Over) (c : After-from g) → c.from.result < length c.args.kinds.now
inside g c = subst (λ m. m < length c.args.kinds.now) (sym c.from.ensures) (subst (λ m. g.S.Storage.number c.p-item.result.0 < m) (sym c.requires.kinds)
    (mapped_all (λ p. g.S.Storage.number p.0) _ _ _ c.p-item.is (omega (arith, c.loop-p-test.true)) (λ p. p < length (g.T.Tables.grammar c.args.tables.now).productions) c.rule_to_prods-p-items.ensures.within))

pub bounds-kinds-from : goal.bounds-kinds-from
bounds-kinds-from g c = inside g (goal.at.bounds-kinds-from g c).After-from

pub offset_bounds-kinds-from : goal.offset_bounds-kinds-from
offset_bounds-kinds-from g c = omega (arith, inside g (goal.at.offset_bounds-kinds-from g c).After-from)

pub loop-p-preserved : goal.loop-p-preserved
loop-p-preserved g c =
    let number = g.S.Storage.number in
    let kinds = c.args.kinds.now in
    let positions = production_numbers number c.rule_to_prods-p-items.result.now in
    let p = number c.p-item.result.0 in
    let lt : c.loop-p.p-index < length c.rule_to_prods-p-items.result.now = omega (arith, c.loop-p-test.true) in
    let within = mapped_within (λ p. number p.0) _ _ _ c.p-item.is lt in
    let at = mapped_at (λ p. number p.0) _ _ _ c.p-item.is lt in
    let inside = mapped_all (λ p. number p.0) _ _ _ c.p-item.is lt (λ p. p < length (g.T.Tables.grammar c.args.tables.now).productions) c.rule_to_prods-p-items.ensures.within in
    let kind = get_or_default kinds p Suboptimal c.index-kinds-from.result (subst (λ m. p < m) (sym c.requires.kinds) inside)
    ∙ sym (subst (λ i. c.index-kinds-from.result ≡ get_or kinds i c.index-kinds-from.result) c.from.ensures c.index-kinds-from.is) in
    elim c.match-kind.branch [
      | in-Suboptimal w ↦ subst (OnlyOne kinds (take (c.loop-p.p-index + 1) positions)) (sym w.only-is)
          (only_suboptimal kinds positions c.loop-p.p-index p within at c.loop-p.only c.loop-p.invariant (kind ∙ w.in-Suboptimal.is))
      | in-Chain w ↦ subst (OnlyOne kinds (take (c.loop-p.p-index + 1) positions)) (sym w.only-is)
          (only_found kinds positions c.loop-p.p-index p within at c.loop-p.only w.in-Chain.target (None-from_is_some c.loop-p.only w.if-is_none.ensures) c.loop-p.invariant (kind ∙ w.in-Chain.is))
    ]

pub returns : goal.returns
returns g c =
    let number = g.S.Storage.number in
    let positions = production_numbers number c.rule_to_prods-p-items.result.now in
    only_ends number (g.T.Tables.grammar c.args.tables.now) c.args.kinds.now positions c.loop-p.p-index (number c.args.rule.0) c.loop-p.only
    (simp length-map (omega (arith, c.loop-p-test.false, c.loop-p.auto.p-index-end))) c.rule_to_prods-p-items.ensures c.loop-p.invariant
