use Rattle.std.proofs.Common.{subst, sym}
use Rattle.cfgsets.specs.GrowingFollows.{AreSoundFollows}
use Rattle.cfganalysis.proofs.FollowsFound.{adds_so_far}
use Rattle.cfganalysis.proofs.follows.FollowAnalysisAnalysis.visit.Goals as goal

pub add_production-requires : goal.add_production-requires
add_production-requires g c = (
  c.requires.0,
  c.requires.1,
  subst (AreSoundFollows c.requires.0) (sym c.self.view_is) c.requires.2.follows,
  c.requires.3,
  c.requires.4,
  c.requires.5,
)

pub returns-clause-takes : goal.returns-clause-takes
returns-clause-takes g c = adds_so_far _ _ _ _ _ c.self.view_is c.add_production.ensures.firsts c.add_production.ensures.takes
