-- The type of a construct: what it gives, and how much of its text it leaves.
use Rattle.std.specs.Prelude.{ℕ, List, [], ◌∷◌, Option}

-- a value; or, of a turn of a repetition, a value or the end
pub data Gives : Type 1 where
  One : Type 0 → Gives
  OneOrEnd : Type 0 → Gives

abbrev pub ValueOf : Gives → Type 0
ValueOf (One A) = A
ValueOf (OneOrEnd A) = Option A

-- a shorter rest, or one that is no longer; a turn that gives the end need not leave a shorter one
pub data Leaves : Type 0 where
  Less : Leaves
  NoMore : Leaves

-- of a sequence
abbrev pub either : Leaves → Leaves → Leaves
either Less m = Less
either NoMore m = m

-- of a choice
abbrev pub both : Leaves → Leaves → Leaves
both l Less = l
both l NoMore = NoMore

-- after a word
abbrev pub preceded : List ℕ → Leaves → Leaves
preceded [] l = l
preceded (c ∷ word) l = Less
