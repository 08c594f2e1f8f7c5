use Rattle.std.proofs.Common.{take}
use Rattle.search.specs.Reachable.{FoundBy, Reaches}
use Rattle.cfganalysis.specs.Paths.{ProductionRefersAt}
use Rattle.cfganalysis.proofs.paths.reach_referred.Given as goal

abbrev pub invariant-loop-production : goal.invariant-loop-production
invariant-loop-production g l = Reaches (FoundBy (λ p. ProductionRefersAt (g.T.Tables.grammar l.tables) (g.S.Storage.number p.0)) (take l.production-index l.productions)) l.fn.search l.search
