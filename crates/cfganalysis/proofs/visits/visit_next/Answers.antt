use Rattle.std.proofs.Common.{◌<◌, length, arith, refl, sym, subst, ap, length-set, false}
use Rattle.cfgtables.proofs.Located.{at_position}
use Rattle.cfganalysis.specs.Inner.Visits.{left_to_do}
use Rattle.cfgsets.specs.Growth.{shown}
use Rattle.cfganalysis.proofs.Visiting.{all_again, few_opened, visited_next, visited_less}
use Rattle.cfganalysis.proofs.visits.visit_next.Goals as goal

pub open-requires-clause-all_countable : goal.open-requires-clause-all_countable
open-requires-clause-all_countable g c =
    let w = c.requires.visited in
    all_again _ _ _ _ _ _ _ _ _ _ _ _ w _ _ _ refl c.in-Some.ensures (g.met.A.Analysis.bounded _ _ w.sound) c.requires.can.all_small

pub add_production-requires-clause-within : goal.add_production-requires-clause-within
add_production-requires-clause-within g c =
    let w = c.requires.visited in
    λ r p h. let k = w.within p r h in
    omega (arith, k, w.positions, ap length c.in-Some.ensures.rest, length-set c.args.work.now.waiting c.in-Some.number false)

pub returns-clause-visited : goal.returns-clause-visited
returns-clause-visited g c =
    visited_next _ _ _ _ _ _ _ _ _ _ _ _ c.requires.visited _ _ _ _ (shown g.S.Storage.number c.rule_of-rule.result c.open.result.now) _ _ _ _ _ _ _ c.requires.can.grammar refl c.to_storage.ensures
    c.rule_of-rule.ensures c.open.ensures.symbols c.in-Some.ensures c.open.follows.holds-at-none c.add_production.ensures.takes
    c.add_production.ensures.dependents c.add_production.ensures.grown c.add_production.ensures.rules

pub returns-clause-less : goal.returns-clause-less
returns-clause-less g c =
    let w = c.requires.visited in
    let same = c.open.follows.holds-at-none.stays in
    let sound = subst (λ h. g.A.Analysis.holds h c.add_production.new.analysis) same (returns-clause-visited g c).sound in
    subst (λ h. left_to_do h (g.A.Analysis.bits c.add_production.new.analysis) c.add_production.new.work.waiting
    < left_to_do (g.P.Productions.content c.args.productions.now) (g.A.Analysis.bits c.args.analysis.now) c.args.work.now.waiting) (sym same)
    (visited_less _ _ _ _ _ _ _ _ _ _ _ _ w _ _ (shown g.S.Storage.number c.rule_of-rule.result c.open.result.now) _ _ _ (g.met.A.Analysis.bounded _ _ sound) c.in-Some.ensures c.add_production.ensures.takes)

pub to_storage-requires : goal.to_storage-requires
to_storage-requires g c = omega (arith, c.requires.visited.known c.in-Some.number c.in-Some.ensures.waited, c.requires.can.fits)

pub rule_of-rule-requires : goal.rule_of-rule-requires
rule_of-rule-requires g c = subst (λ n. n < length (g.P.Productions.content c.args.productions.now).productions) (sym c.to_storage.ensures)
    (c.requires.visited.known c.in-Some.number c.in-Some.ensures.waited)

pub open-requires-clause-in_range : goal.open-requires-clause-in_range
open-requires-clause-in_range g c = subst (λ n. n < length (g.P.Productions.content c.args.productions.now).productions) (sym c.to_storage.ensures)
    (c.requires.visited.known c.in-Some.number c.in-Some.ensures.waited)

pub open-requires-clause-countable : goal.open-requires-clause-countable
open-requires-clause-countable g c =
    let w = c.requires.visited in
    let index = subst (λ n. n < length (g.P.Productions.content c.args.productions.now).productions) (sym c.to_storage.ensures)
    (w.known c.in-Some.number c.in-Some.ensures.waited) in
    let few = (few_opened _ _ _ _ _ _ _ _ _ _ _ _ w _ (g.met.A.Analysis.bounded _ _ w.sound) (omega arith)).each (g.S.Storage.number c.to_storage.result) index in
    omega (arith, few, c.requires.can.small)

pub add_production-requires-clause-grammar : goal.add_production-requires-clause-grammar
add_production-requires-clause-grammar g c =
    let w = c.requires.visited in
    let index = subst (λ n. n < length (g.P.Productions.content c.args.productions.now).productions) (sym c.to_storage.ensures)
    (w.known c.in-Some.number c.in-Some.ensures.waited) in (
      g.P.Productions.content c.args.productions.now,
      c.requires.can.grammar,
      w.sound,
      w.idle,
      w.gains,
      w.rules,
      at_position (g.P.Productions.content c.args.productions.now) (g.S.Storage.number c.to_storage.result) _ index c.rule_of-rule.ensures c.open.ensures.symbols,
    )

pub returns-clause-content : goal.returns-clause-content
returns-clause-content g c = c.open.follows.holds-at-none.stays
