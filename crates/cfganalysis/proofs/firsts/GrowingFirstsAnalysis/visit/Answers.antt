use Rattle.std.proofs.Common.{◌<◌, length, subst, sym}
use Rattle.cfgtables.proofs.Located.{owner}
use Rattle.cfganalysis.proofs.FirstVisits.{gains_put, gains_none}
use Rattle.cfganalysis.proofs.firsts.GrowingFirstsAnalysis.visit.Goals as goal

pub returns-then-add_production-clause-takes : goal.returns-then-add_production-clause-takes
returns-then-add_production-clause-takes g c =
    gains_put _ _ _ _ _ _ c.args.grown.now _ c.requires.3
    (subst (λ n. n < length c.args.grown.now) (sym c.from.ensures)
    (subst (λ n. g.S.Storage.number c.args.rule.0 < n) (sym c.requires.4) (owner _ _ c.requires.1 c.requires.5)))
    c.from.ensures c.put.ensures c.if-add_production.true c.add_production.ensures

pub returns-else-add_production-clause-takes : goal.returns-else-add_production-clause-takes
returns-else-add_production-clause-takes g c = gains_none _ _ _ _ _ _ c.requires.3 c.if-add_production.false c.add_production.ensures
