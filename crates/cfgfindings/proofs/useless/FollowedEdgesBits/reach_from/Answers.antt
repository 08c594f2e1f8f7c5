use Rattle.std.proofs.Common.{◌≡◌, ℕ, ◌<◌, arith, length, map, subst, ap}
use Rattle.std.proofs.lemmas.List.{get_or_default}
use Rattle.std.proofs.lemmas.List.Elements.{All-map}
use Rattle.search.proofs.Each.{each_all, each_more, each_none, found_mapped}
use Rattle.cfgrammar.specs.Numbered.{Numbered, core}
use Rattle.cfgrammar.specs.Openings.{ArePositionsOf}
use Rattle.cfgrammar.specs.PIdx.{PIdx}
use Rattle.cfgrammar.proofs.ListedPositions.{listed_positions}
use Rattle.cfgfindings.specs.Inner.Reached.{RefersAt}
use Rattle.cfgfindings.proofs.Reached.{edges_of_rule, leads_nowhere}
use Rattle.cfgfindings.proofs.useless.FollowedEdgesBits.reach_from.Goals as goal

pub returns-then-node-from : goal.returns-then-node-from
returns-then-node-from c = leads_nowhere c.args.self.now.unproductive.now c.args.self.now.only_usable c.args.node
    (omega (arith, c.if-node-from.true, c.from.ensures, c.rules_len.ensures, ap (λ (n : Numbered). length n.rules) c.grammar-grammar.ensures)) c.args.search.now

pub loop-production-init : goal.loop-production-init
loop-production-init c = each_none _ _

pub loop-production-preserved : goal.loop-production-preserved
loop-production-preserved c =
    let all = c.rule_to_prods-production-items.result.now in
    let n = c.loop-production.production-index in
    let lt : n < length all = omega (arith, c.loop-production-test.true) in
    each_more (λ p. RefersAt c.args.self.now.unproductive.now c.args.self.now.only_usable p.0) all n _ _ _ _ lt (get_or_default all n _ _ lt) c.loop-production.invariant
    c.in_ok-reach_referred.ensures

pub returns : goal.returns
returns c =
    let h = c.grammar-grammar.result.now in
    let g = c.args.self.now.unproductive.now in
    let view : h ≡ g = c.grammar-grammar.ensures in
    let all = c.rule_to_prods-production-items.result.now in
    let positions = map (λ p. p.0) all in
    let there : c.args.node < length g.rules = omega (arith, c.if-node-from.false, c.from.ensures, c.rules_len.ensures, ap (λ (n : Numbered). length n.rules) view) in
    let are = subst (λ (n : Numbered). ArePositionsOf (core n) c.args.node positions) view
    (subst (λ r. ArePositionsOf (core h) r positions) c.to_storage.ensures
    (listed_positions h c.to_storage.result positions c.invariant_holds.ensures.listed_once c.rule_to_prods-production-items.ensures.value
    (All-map (λ p. p < length h.productions) (λ (p : PIdx ℕ). p.0) all c.rule_to_prods-production-items.ensures.within))) in
    edges_of_rule g c.args.self.now.only_usable c.args.node there positions are _ _
    (found_mapped (λ p. p.0) (RefersAt g c.args.self.now.only_usable) all _ _
    (each_all _ _ _ _ _ (omega (arith, c.loop-production-test.false, c.loop-production.auto.production-index-end)) c.loop-production.invariant))
