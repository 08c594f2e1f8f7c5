-- The tokens that a parser can shift by an item.
use Rattle.std.specs.Prelude.{◌≡◌, ◌+◌, ℕ, length}
use Rattle.cfgrammar.specs.Grammar.{Token}
use Rattle.cfgrammar.specs.Numbered.{Numbered, core}
use Rattle.lr_states.specs.Viable.{HasNext}
use Rattle.lr_states.specs.declared.Item.{Item}
use Rattle.lr_conflicts.specs.Conflicts.{read_item}

-- By the item the token can be shifted: it is next; or the start rule is read, and this is the end token. To shift that is to accept.
pub data IsShiftedBy (g : Numbered) (item : Item) (t : ℕ) : Type 0 where
  next : HasNext (core g) item (Token t) → IsShiftedBy g item t
  accepts : item ≡ read_item g g.start_production → t + 1 ≡ length g.tokens → IsShiftedBy g item t
