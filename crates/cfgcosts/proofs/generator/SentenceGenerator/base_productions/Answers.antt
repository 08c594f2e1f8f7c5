use Rattle.std.proofs.Common.{◌≡◌, ◌<◌, ◌++◌, ◌∷◌, [], arith, length, sym, ap, subst, ◌∙◌}
use Rattle.std.proofs.lemmas.List.{length-replicate}
use Rattle.search.specs.Reachable.{Reaches, SearchState}
use Rattle.search.proofs.Reaching.{Begun, begun, less_to_do, popped_within}
use Rattle.cfgleast.specs.Generator.{CostTables}
use Rattle.cfgchoices.specs.Kinds.{production_numbers}
use Rattle.cfgcosts.proofs.ReachedBases.{BaseSearch, base_search_begins, base_search_goes_on, base_search_ends}
use Rattle.cfgcosts.proofs.generator.SentenceGenerator.base_productions.Goals as goal

pub reach-requires : goal.reach-requires
reach-requires g c =
    let rules = c.to_usize.ensures.value ∙ c.rules_len.ensures.value ∙ ap (λ (x : CostTables). x.grammar.rules) c.self.view_is in
    let long = ap (λ (s : SearchState). length s.reachable) c.through_few-search.ensures ∙ length-replicate _ _ ∙ rules in
    omega (arith, c.from.ensures, c.requires, long)

pub loop-node-init : goal.loop-node-init
loop-node-init g c =
    let x = c.args.self.now in
    let rule = g.S.Storage.number c.args.rule.0 in
    let rules = c.to_usize.ensures.value ∙ c.rules_len.ensures.value ∙ ap (λ (x : CostTables). x.grammar.rules) c.self.view_is in
    let first = subst (λ r. Reaches (λ q. q ≡ r) c.through_few-search.result c.reach.new.self) c.from.ensures c.in_ok-reach.ensures in
    subst (λ l. BaseSearch x rule (production_numbers g.S.Storage.number l) c.reach.new.self) (sym c.new-base.ensures.items)
    (base_search_begins x rule _ (subst (λ n. Begun n (λ q. q ≡ rule) c.reach.new.self) rules (begun _ _ _ _ c.through_few-search.ensures first)))

pub to_storage-requires : goal.to_storage-requires
to_storage-requires g c =
    let rules = c.to_usize.ensures.value ∙ c.rules_len.ensures.value ∙ ap (λ (x : CostTables). x.grammar.rules) c.self.view_is in
    let within = popped_within _ _ _ _ _ _ c.next.new.self c.loop-node.invariant.search c.in-Some.ensures.waiting in
    omega (arith, rules, within, c.to_usize.ensures.range)

pub go_through-requires-clause-rule : goal.go_through-requires-clause-rule
go_through-requires-clause-rule g c = subst (λ n. n < c.args.self.now.grammar.rules) (sym c.to_storage.ensures)
    (popped_within _ _ _ _ _ _ c.next.new.self c.loop-node.invariant.search c.in-Some.ensures.waiting)

pub go_through-requires-clause-rules : goal.go_through-requires-clause-rules
go_through-requires-clause-rules g c = ap length c.in-Some.ensures.reachable ∙ c.loop-node.invariant.search.shape

pub loop-node-preserved : goal.loop-node-preserved
loop-node-preserved g c =
    base_search_goes_on c.args.self.now (g.S.Storage.number c.args.rule.0) (g.S.Storage.number c.to_storage.result) _ _ _ _ _ c.loop-node.invariant c.in-Some.ensures.reachable
    (subst (λ b. c.loop-node.search.waiting ≡ c.next.new.self.waiting ++ b ∷ []) (sym c.to_storage.ensures) c.in-Some.ensures.waiting)
    c.in_ok-go_through.ensures.targets c.in_ok-go_through.ensures.base

pub loop-node-smaller : goal.loop-node-smaller
loop-node-smaller g c = less_to_do _ _ _ _ _ c.in-Some.ensures.reachable c.in-Some.ensures.waiting c.in_ok-go_through.ensures.targets

pub returns : goal.returns
returns g c = base_search_ends c.args.self.now (g.S.Storage.number c.args.rule.0) (production_numbers g.S.Storage.number c.loop-node.base.items) c.loop-node.search c.loop-node.invariant
    c.in_default.ensures.waiting
