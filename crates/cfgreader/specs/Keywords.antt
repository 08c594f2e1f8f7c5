-- Tables of keywords, as constructs.
use Rattle.std.specs.Prelude.{ℕ, List, [], ◌∷◌}
use Rattle.constructs.specs.Leaves.{Leaves, One}
use Rattle.constructs.specs.Construct.{Construct, case_of, then, again}
use Rattle.cfgwords.specs.declared.fault.Fault.{Fault}
use Rattle.cfgitems.specs.Items.{Item}
use Rattle.cfgreader.specs.Here.{Turn}

-- a construct, whatever it leaves
pub record After : Type 1 where
  pub leaves : Leaves
  pub construct : Construct Item Fault leaves (One (Unit {0}))

abbrev pub after : {l : Leaves} → Construct Item Fault l (One (Unit {0})) → After
after {l} c = record { leaves = l; construct = c }

-- a keyword, by its first byte and the others, and what follows it
pub record Keyword : Type 1 where
  pub first : ℕ
  pub others : List ℕ
  pub follows : After

-- a turn after the first of these keywords that the text begins with, or else what c says
abbrev pub one_of : List Keyword → Turn (Unit {0}) → Turn (Unit {0})
one_of [] c = c
one_of (keyword ∷ keywords) c = case_of (keyword.first ∷ keyword.others) (then keyword.follows.construct again) (one_of keywords c)
