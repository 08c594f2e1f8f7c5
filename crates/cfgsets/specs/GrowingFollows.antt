-- FOLLOW sets while they are computed, with the FIRST sets that they depend on. A production gives each rule in it the tokens that the
-- rest of the production begins with and, if the rest is nullable, those that follow the production's rule.
use Rattle.std.specs.Prelude.{◌≡◌, ℕ, ◌+◌, List}
use Rattle.derivation.specs.Grammar.{Sym, Grammar, Production}
use Rattle.derivation.specs.Follow.{MayFollow}
use Rattle.derivation.specs.FollowSets.{CoversFollow}
use Rattle.cfgsets.specs.FirstSets.{FirstSets, AreSoundFirsts, IsAmongFirsts, IsNullableRule}
use Rattle.cfgsets.specs.Table.{Table, IsTable, HasBit, count_of}

-- the FIRST sets, and for each rule a row of bits that says which tokens follow it
pub record FollowSets : Type 0 where
  pub firsts : FirstSets
  pub follows : Table

-- the sets contain nothing but what derivations show; the end token follows the start rule
pub record AreSoundFollows (g : Grammar) (x : FollowSets) : Type 0 where
  pub firsts : AreSoundFirsts g x.firsts
  pub fits : IsTable g.rules g.tokens x.follows
  pub finish : (t : ℕ) → t + 1 ≡ g.tokens → HasBit x.follows 0 t
  pub follow : (r t : ℕ) → HasBit x.follows r t → MayFollow g r t

-- each rule in the list is followed by what the rest of the list begins with and, if the rest is nullable, by what follows `rule`
abbrev pub CoversFollowIn : FollowSets → ℕ → List Sym → Type 0
CoversFollowIn x rule a = CoversFollow (IsNullableRule x.firsts) (IsAmongFirsts x.firsts) (HasBit x.follows) a (HasBit x.follows rule)

-- the sets contain all that the production gives
abbrev pub CoverFollowsOf : FollowSets → Production → Type 0
CoverFollowsOf x p = CoversFollowIn x p.rule p.symbols

-- r is the production's rule; what the production gives depends on r's set
abbrev pub IsOwner : Production → ℕ → Type 0
IsOwner p r = r ≡ p.rule

-- the rule's set grown no token
abbrev pub HasNoMoreFollows : ℕ → FollowSets → FollowSets → Type 0
HasNoMoreFollows r old new = (t : ℕ) → HasBit new.follows r t → HasBit old.follows r t

-- how many bits are on
abbrev pub count_follows : FollowSets → ℕ
count_follows x = count_of x.follows
