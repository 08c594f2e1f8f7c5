use Rattle.std.proofs.Common.{take}
use Rattle.search.specs.Reachable.{FoundBy, Reaches}
use Rattle.cfgtables.specs.Openings.{nth_production}
use Rattle.cfggreatest.specs.Inner.Edges.{IsAmong}
use Rattle.cfggreatest.proofs.rule_edges.RuleEdgesEdgesBits.reach_from.Given as goal

abbrev pub invariant-loop-production : goal.invariant-loop-production
invariant-loop-production g l = Reaches (FoundBy (λ p. IsAmong l.self.productive.now (nth_production (g.T.Tables.grammar l.self.tables.now) (g.S.Storage.number p.0)).symbols)
    (take l.production-index l.production-items)) l.fn.search l.search
