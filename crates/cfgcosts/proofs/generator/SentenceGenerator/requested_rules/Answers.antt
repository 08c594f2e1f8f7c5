use Rattle.std.proofs.Common.{◌≡◌, ℕ, ◌<◌, ◌++◌, ◌∷◌, [], arith, All, Contains, length, sym, ap, subst, ◌∙◌}
use Rattle.std.specs.List.Sorted.{IsPermutation}
use Rattle.std.proofs.lemmas.List.{length-replicate}
use Rattle.std.proofs.lemmas.List.Elements.{All-contains_itself, All-weaker}
use Rattle.derivation.specs.Grammar.{IsGrammar}
use Rattle.cfganalysis.specs.Paths.{ProductionRefersAt}
use Rattle.search.specs.Reachable.{FoundBy, Reaches, SearchState}
use Rattle.search.proofs.Reaching.{Begun, begun, less_to_do, popped_reachable, popped_within}
use Rattle.cfgleast.specs.Generator.{CostTables, IsGenerator}
use Rattle.cfgchoices.specs.Kinds.{production_numbers}
use Rattle.cfgcosts.proofs.RequestedRules.{Asking, HasAnswer, answered, asking_begins, asking_goes_on, asking_ends}
use Rattle.cfgcosts.proofs.generator.SentenceGenerator.requested_rules.Goals as goal

pub reach-requires : goal.reach-requires
reach-requires g c =
    let rules = c.to_usize.ensures.value ∙ c.rules_len.ensures.value ∙ ap (λ (x : CostTables). x.grammar.rules) c.self.view_is in
    let long = ap (λ (s : SearchState). length s.reachable) c.through_few-search.ensures ∙ length-replicate _ _ ∙ rules in
    omega (arith, c.from.ensures, c.requires.rule, long)

pub loop-node-init : goal.loop-node-init
loop-node-init g c =
    let x = c.args.self.now in
    let rule = g.S.Storage.number c.args.rule.0 in
    let rules = c.to_usize.ensures.value ∙ c.rules_len.ensures.value ∙ ap (λ (x : CostTables). x.grammar.rules) c.self.view_is in
    let first = subst (λ r. Reaches (λ q. q ≡ r) c.through_few-search.result c.reach.new.self) c.from.ensures c.in_ok-reach.ensures in
    subst (λ l. Asking x rule l c.reach.new.self) (sym c.new-requested.ensures)
    (asking_begins x rule _ (subst (λ n. Begun n (λ q. q ≡ rule) c.reach.new.self) rules (begun _ _ _ _ c.through_few-search.ensures first)))

pub to_storage-requires : goal.to_storage-requires
to_storage-requires g c =
    let rules = c.to_usize.ensures.value ∙ c.rules_len.ensures.value ∙ ap (λ (x : CostTables). x.grammar.rules) c.self.view_is in
    let within = popped_within _ _ _ _ _ _ c.next.new.self c.loop-node.invariant.search c.in-Some.ensures.waiting in
    omega (arith, rules, within, c.to_usize.ensures.range)

pub base_productions-requires : goal.base_productions-requires
base_productions-requires g c = subst (λ n. n < c.args.self.now.grammar.rules) (sym c.to_storage.ensures)
    (popped_within _ _ _ _ _ _ c.next.new.self c.loop-node.invariant.search c.in-Some.ensures.waiting)

pub reach_referred-requires-clause-rules : goal.reach_referred-requires-clause-rules
reach_referred-requires-clause-rules g c = ap length c.in-Some.ensures.reachable ∙ c.loop-node.invariant.search.shape ∙ sym (ap (λ (x : CostTables). x.grammar.rules) c.self.view_is)

pub reach_referred-requires-clause-productions : goal.reach_referred-requires-clause-productions
reach_referred-requires-clause-productions g c =
    let base = production_numbers g.S.Storage.number c.in_ok-base.base.items in
    let Is = λ (x : CostTables) (p : ℕ). p < length x.grammar.productions in
    subst (λ (x : CostTables). All (Is x) (production_numbers g.S.Storage.number c.deref.result.now)) (sym c.self.view_is)
    (subst (λ l. All (Is c.args.self.now) (production_numbers g.S.Storage.number l)) (sym c.deref.ensures.value)
    (All-weaker (Contains base) (Is c.args.self.now) (λ p h. ((c.in_ok-base.ensures p).0 h).base.optimal.index) base (All-contains_itself base)))

pub known_cost-requires-clause-rule : goal.known_cost-requires-clause-rule
known_cost-requires-clause-rule g c = subst (λ n. n < c.args.self.now.grammar.rules) (sym c.to_storage.ensures)
    (popped_within _ _ _ _ _ _ c.next.new.self c.loop-node.invariant.search c.in-Some.ensures.waiting)

pub known_cost-requires-clause-known : goal.known_cost-requires-clause-known
known_cost-requires-clause-known g c =
    let x = c.args.self.now in
    let rule = g.S.Storage.number c.args.rule.0 in
    let is = subst (λ (x : CostTables). IsGenerator x c.self.inside.settled.number) c.self.view_is c.self.invariant.0 in
    let grammar = subst (λ (x : CostTables). IsGrammar x.grammar) c.self.view_is c.rules_len.ensures.content in
    let invariant = c.loop-node.invariant.search in
    subst (HasAnswer x rule) (sym c.to_storage.ensures) (answered x rule _ is grammar c.requires.known
    (invariant.sound c.in-Some.node (popped_reachable _ _ _ _ _ _ c.next.new.self invariant c.in-Some.ensures.waiting)))

pub loop-node-preserved : goal.loop-node-preserved
loop-node-preserved g c =
    let number = g.S.Storage.number in
    let x = c.args.self.now in
    let held = subst (λ (x : CostTables). Reaches (FoundBy (ProductionRefersAt x.grammar) (production_numbers number c.in_ok-base.base.items)) c.next.new.self c.reach_referred.new.search) c.self.view_is
    (subst (λ l. Reaches (FoundBy (ProductionRefersAt (g.T.Tables.grammar c.self.inside.tables.now)) (production_numbers number l)) c.next.new.self c.reach_referred.new.search) c.deref.ensures.value c.in_ok-reach_referred.ensures) in
    let listed = subst (λ m. IsPermutation ((c.known_cost.result, m) ∷ c.loop-node.requested) c.push.new.self) c.to_usize-in-Some.ensures.value c.in_ok-push.ensures in
    asking_goes_on x (number c.args.rule.0) (number c.to_storage.result) c.known_cost.result _ _ _ (production_numbers number c.in_ok-base.base.items) _ _ c.loop-node.invariant
    c.in-Some.ensures.reachable (subst (λ b. c.loop-node.search.waiting ≡ c.next.new.self.waiting ++ b ∷ []) (sym c.to_storage.ensures) c.in-Some.ensures.waiting)
    c.in_ok-base.ensures held c.known_cost.ensures listed

pub loop-node-smaller : goal.loop-node-smaller
loop-node-smaller g c = less_to_do _ _ _ _ _ c.in-Some.ensures.reachable c.in-Some.ensures.waiting c.in_ok-reach_referred.ensures

pub returns : goal.returns
returns g c = asking_ends c.args.self.now (g.S.Storage.number c.args.rule.0) c.loop-node.requested c.loop-node.search c.loop-node.invariant c.in_default.ensures.waiting
