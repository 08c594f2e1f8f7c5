-- FOLLOW sets while they are computed from exact FIRST sets.
use Rattle.std.specs.Prelude.{◌+◌, ◌*◌, ◌≤◌}
use Rattle.derivation.specs.Grammar.{Grammar}
use Rattle.cfgsets.specs.Bounds.{follows_bounded}
use Rattle.cfgsets.specs.GrowingFollows.{FollowSets, AreSoundFollows, count_follows}
use Rattle.cfganalysis.specs.Firsts.{AreFirsts}

-- the FIRST sets are exact, and the FOLLOW sets contain nothing but what derivations show
pub record AreFollowsSoFar (g : Grammar) (x : FollowSets) : Type 0 where
  pub firsts : AreFirsts g x.firsts
  pub follows : AreSoundFollows g x

-- the number of bits that are on is at most the number of bits
pub so_far_bounded : (g : Grammar) (x : FollowSets) → AreFollowsSoFar g x → count_follows x ≤ g.rules * (g.tokens + 1)
so_far_bounded g x h = follows_bounded g x h.follows
