use Rattle.std.proofs.Common.{take}
use Rattle.search.specs.Reachable.{FoundBy, Reaches}
use Rattle.cfgfindings.specs.Inner.Reached.{RefersAt}
use Rattle.cfgfindings.proofs.useless.FollowedEdgesBits.reach_from.Given as goal

-- what the productions so far have is reached
abbrev pub invariant-loop-production : goal.invariant-loop-production
invariant-loop-production l = Reaches (FoundBy (λ p. RefersAt l.self.unproductive.now l.self.only_usable p.0) (take l.production-index l.production-items)) l.fn.search l.search
