use Rattle.std.proofs.Common.{◌≡◌, ◌↔◌, ℕ, Contains, take}
use Rattle.lr_conflicts.specs.Conflicts.{read_item}
use Rattle.lr_conflicts.proofs.parser.read_productions.Given as goal

-- those of the items so far are pushed
abbrev pub invariant-loop-item : goal.invariant-loop-item
invariant-loop-item l =
    (p : ℕ) → Contains l.productions.items p ↔ ((p ≡ l.grammar.start_production → ⊥) × Contains (take l.item-index l.items) (read_item l.grammar p))
