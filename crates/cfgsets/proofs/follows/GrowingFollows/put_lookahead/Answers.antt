use Rattle.std.proofs.Common.{subst}
use Rattle.cfgsets.specs.Inner.Lookaheads.{IsLookaheadOf}
use Rattle.cfgsets.proofs.follows.GrowingFollows.put_lookahead.Goals as goal

pub put_first-requires : goal.put_first-requires
put_first-requires g c = (
  c.requires.0,
  c.requires.1,
  c.requires.3,
  subst (IsLookaheadOf g.S.Storage.number c.requires.0) c.in-Symbol.is c.requires.4,
)
