use Rattle.std.proofs.Common.{◌≡◌, ◌↔◌, ℕ, Contains, IsTrue, false, get_or, length, take}
use Rattle.lr_states.specs.declared.Item.{Item}
use Rattle.lr_conflicts.specs.Tables.{IsShiftedBy}
use Rattle.lr_conflicts.proofs.parser.Parser.shifts.Given as goal

-- the bits of the tokens of the items so far are on
abbrev pub invariant-loop-item : goal.invariant-loop-item
invariant-loop-item l = record {
  long : length l.shifts ≡ length l.self.grammar.now.tokens;
  bits : (t : ℕ) → IsTrue (get_or l.shifts t false) ↔ ((item : Item) × Contains (take l.item-index l.item-items) item × IsShiftedBy l.self.grammar.now item t);
}
