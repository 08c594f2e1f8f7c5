use Rattle.std.proofs.Common.{◌<◌, ◌∙◌, arith, length, map, sym, subst, Contains}
use Rattle.derivation.specs.Grammar.{Rule}
use Rattle.search.specs.Reachable.{Reaches, SearchState}
use Rattle.search.proofs.Each.{each_all, each_more, each_none, found_mapped}
use Rattle.cfgtables.specs.Openings.{ArePositionsOf, nth_production}
use Rattle.cfgtables.proofs.Slices.{mapped_all}
use Rattle.cfganalysis.specs.ProductiveRules.{AreProductiveSymbols}
use Rattle.cfganalysis.proofs.References.{found_by_rule, symbols_there}
use Rattle.cfggreatest.specs.Inner.Edges.{IsAmong}
use Rattle.cfggreatest.proofs.Edges.{among_reached, none_among}
use Rattle.cfggreatest.proofs.rule_edges.RuleEdgesEdgesBits.reach_from.Goals as goal
use Rattle.cfggreatest.proofs.rule_edges.RuleEdgesEdgesBits.reach_from.Goals.{then-are_productive+in_ok-reach_symbols, else-are_productive}

pub prod-symbols-requires : goal.prod-symbols-requires
prod-symbols-requires g c = mapped_all (λ p. g.S.Storage.number p.0) _ _ _ c.production-item.is (omega (arith, c.loop-production-test.true))
    (λ p. p < length (g.T.Tables.grammar c.args.self.now.tables.now).productions) c.rule_to_prods-production-items.ensures.within

pub reach_symbols-requires : goal.reach_symbols-requires
reach_symbols-requires g c = (
  g.T.Tables.grammar c.args.self.now.tables.now,
  c.loop-production.invariant.shape ∙ c.requires.nodes,
  symbols_there _ _ _ c.rules_len.ensures.content
      (mapped_all (λ p. g.S.Storage.number p.0) _ _ _ c.production-item.is (omega (arith, c.loop-production-test.true))
      (λ p. p < length (g.T.Tables.grammar c.args.self.now.tables.now).productions) c.rule_to_prods-production-items.ensures.within) c.prod-symbols.ensures,
)

pub loop-production-init : goal.loop-production-init
loop-production-init g c = each_none _ _

pub loop-production-preserved : goal.loop-production-preserved
loop-production-preserved g c =
    let productive = c.args.self.now.productive.now in
    let symbols = (nth_production (g.T.Tables.grammar c.args.self.now.tables.now) (g.S.Storage.number c.production-item.result.0)).symbols in
    each_more _ _ _ _ _ _ _ (omega (arith, c.loop-production-test.true)) c.production-item.is c.loop-production.invariant (elim c.if-are_productive.branch [
      | then-are_productive+in_ok-reach_symbols w ↦ subst (λ (x : SearchState). Reaches (IsAmong productive symbols) c.loop-production.search x) (sym w.search-is)
          (among_reached productive symbols _ _ (subst (AreProductiveSymbols productive) c.prod-symbols.ensures w.if-are_productive.ensures)
          (subst (λ l. Reaches (λ r. Contains l (Rule r)) c.loop-production.search w.reach_symbols.new.search) c.prod-symbols.ensures w.in_ok-reach_symbols.ensures))
      | else-are_productive w ↦ subst (λ (x : SearchState). Reaches (IsAmong productive symbols) c.loop-production.search x) (sym w.search-is)
          (none_among productive symbols _ (λ all. w.if-are_productive.ensures (subst (AreProductiveSymbols productive) (sym c.prod-symbols.ensures) all)))
    ])

pub returns : goal.returns
returns g c =
    let grammar = g.T.Tables.grammar c.args.self.now.tables.now in
    let positions = map (λ p. g.S.Storage.number p.0) c.rule_to_prods-production-items.result.now in
    found_by_rule grammar c.args.node positions (subst (λ rule. ArePositionsOf grammar rule positions) c.to_storage.ensures c.rule_to_prods-production-items.ensures)
    (IsAmong c.args.self.now.productive.now) _ _
    (found_mapped (λ p. g.S.Storage.number p.0) (λ p. IsAmong c.args.self.now.productive.now (nth_production grammar p).symbols) c.rule_to_prods-production-items.result.now _ _
    (each_all _ _ _ _ _ (omega (arith, c.loop-production-test.false)) c.loop-production.invariant))
