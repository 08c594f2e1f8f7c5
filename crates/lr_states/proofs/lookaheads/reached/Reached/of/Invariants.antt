use Rattle.lr_states.proofs.ComponentRows.{AreRows}
use Rattle.lr_states.proofs.lookaheads.reached.Reached.of.Given as goal

abbrev pub invariant-loop-component : goal.invariant-loop-component
invariant-loop-component l = AreRows l.edges l.bound l.numbers.items l.component l.rows.items
