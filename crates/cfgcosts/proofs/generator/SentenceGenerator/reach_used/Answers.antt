use Rattle.std.proofs.Common.{ℕ, ◌<◌, All, Contains, length, sym, ap, subst, ◌∙◌}
use Rattle.std.proofs.lemmas.List.Elements.{All-contains_itself, All-weaker}
use Rattle.std.proofs.lemmas.Result.{IfOk-weaker}
use Rattle.lemmas.proofs.Contained.{contains_one}
use Rattle.search.specs.Reachable.{FoundBy, Reaches}
use Rattle.cfganalysis.specs.Paths.{ProductionRefersAt}
use Rattle.cfgleast.specs.Generator.{CostTables}
use Rattle.cfgchoices.specs.Kinds.{production_numbers}
use Rattle.cfgcosts.proofs.Components.{AreOptimal, uses_found}
use Rattle.cfgcosts.proofs.generator.SentenceGenerator.reach_used.Goals as goal

pub optimal_productions-requires : goal.optimal_productions-requires
optimal_productions-requires g c = λ r h. subst (λ q. q < c.args.self.now.grammar.rules)
    (contains_one c.args.rule r (subst (λ l. Contains l r) c.from_ref.ensures.value h)) c.requires.rule

pub reach_referred-requires-clause-rules : goal.reach_referred-requires-clause-rules
reach_referred-requires-clause-rules g c = c.requires.rules ∙ sym (ap (λ (x : CostTables). x.grammar.rules) c.self.view_is)

pub reach_referred-requires-clause-productions : goal.reach_referred-requires-clause-productions
reach_referred-requires-clause-productions g c =
    let optimal = production_numbers g.S.Storage.number c.in_ok-optimal.optimal.items in
    let Is = λ (x : CostTables) (p : ℕ). p < length x.grammar.productions in
    subst (λ (x : CostTables). All (Is x) (production_numbers g.S.Storage.number c.deref.result.now)) (sym c.self.view_is)
    (subst (λ l. All (Is c.args.self.now) (production_numbers g.S.Storage.number l)) (sym c.deref.ensures.value)
    (All-weaker (Contains optimal) (Is c.args.self.now) (λ p h. ((c.in_ok-optimal.ensures p).0 h).1.index) optimal (All-contains_itself optimal)))

pub returns : goal.returns
returns g c =
    let x = c.args.self.now in
    let optimal = production_numbers g.S.Storage.number c.in_ok-optimal.optimal.items in
    let all = subst (λ l. AreOptimal x l optimal) c.from_ref.ensures.value c.in_ok-optimal.ensures in
    IfOk-weaker c.reach_referred.result _ _ (λ _ w. uses_found x c.args.rule optimal all c.args.search.now c.reach_referred.new.search
    (subst (λ (x : CostTables). Reaches (FoundBy (ProductionRefersAt x.grammar) optimal) c.args.search.now c.reach_referred.new.search) c.self.view_is
    (subst (λ l. Reaches (FoundBy (ProductionRefersAt (g.T.Tables.grammar c.self.inside.tables.now)) (production_numbers g.S.Storage.number l)) c.args.search.now c.reach_referred.new.search)
    c.deref.ensures.value w))) c.reach_referred.ensures
