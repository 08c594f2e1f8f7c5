use Rattle.std.proofs.Common.{◌<◌, length, arith, ◌∙◌, subst, Contains}
use Rattle.derivation.specs.Grammar.{Rule}
use Rattle.search.specs.Reachable.{Reaches}
use Rattle.search.proofs.Each.{each_more, each_all, each_none, found_mapped}
use Rattle.cfgtables.proofs.Slices.{mapped_all}
use Rattle.cfganalysis.proofs.References.{symbols_there}
use Rattle.cfganalysis.proofs.paths.reach_referred.Goals as goal

pub prod-requires : goal.prod-requires
prod-requires g c = mapped_all (λ p. g.S.Storage.number p.0) _ _ _ c.production-item.is (omega (arith, c.loop-production-test.true))
    (λ p. p < length (g.T.Tables.grammar c.args.tables.now).productions) c.requires.productions

pub reach_symbols-requires : goal.reach_symbols-requires
reach_symbols-requires g c = (
  g.T.Tables.grammar c.args.tables.now,
  c.loop-production.invariant.shape ∙ c.requires.rules,
  symbols_there _ _ _ c.rules_len-rules.ensures.content
      (mapped_all (λ p. g.S.Storage.number p.0) _ _ _ c.production-item.is (omega (arith, c.loop-production-test.true))
      (λ p. p < length (g.T.Tables.grammar c.args.tables.now).productions) c.requires.productions) c.prod.ensures,
)

pub loop-production-init : goal.loop-production-init
loop-production-init g c = each_none _ _

pub loop-production-preserved : goal.loop-production-preserved
loop-production-preserved g c = each_more _ _ _ _ _ _ _ (omega (arith, c.loop-production-test.true)) c.production-item.is c.loop-production.invariant
    (subst (λ l. Reaches (λ r. Contains l (Rule r)) c.loop-production.search c.reach_symbols.new.search) c.prod.ensures c.in_ok-reach_symbols.ensures)

pub returns : goal.returns
returns g c = found_mapped (λ p. g.S.Storage.number p.0) _ c.args.productions.now _ _
    (each_all _ _ _ _ _ (omega (arith, c.loop-production-test.false, c.loop-production.auto.production-index-end)) c.loop-production.invariant)
