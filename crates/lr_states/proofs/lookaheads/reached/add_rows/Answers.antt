use Rattle.std.proofs.Common.{[], arith, sym, subst, ◌∙◌}
use Rattle.lr_states.specs.Inner.Reached.{TurnsOn}
use Rattle.lr_states.proofs.TurnedOn.{same_bits, turns_all, turns_more, turns_no_row, turns_none, turns_row}
use Rattle.lr_states.proofs.lookaheads.reached.add_rows.Goals as goal
use Rattle.lr_states.proofs.lookaheads.reached.add_rows.Goals.{in-Some, in_default}

pub loop-node-init : goal.loop-node-init
loop-node-init c = turns_none _ _

pub or-requires : goal.or-requires
or-requires c =
    same_bits _ _ _ _ _ c.requires.rows c.in-Some.ensures.lookup.3.0 (c.in-Some.ensures.lookup.3.1 []) c.loop-node.invariant.bits

pub loop-node-preserved : goal.loop-node-preserved
loop-node-preserved c =
    turns_more _ _ _ _ _ _ c.loop-node-test.true c.loop-node.invariant
    (elim c.match-get.branch [
      | in-Some w ↦ subst (TurnsOn _ _) (sym (w.row-is ∙ w.or.ensures.bits))
          (turns_row _ _ _ _ w.in-Some.other.now w.in-Some.ensures.lookup.3.0 (w.in-Some.ensures.lookup.3.1 [])
          (same_bits _ _ _ _ _ c.requires.rows w.in-Some.ensures.lookup.3.0 (w.in-Some.ensures.lookup.3.1 []) c.loop-node.invariant.bits))
      | in_default w ↦ subst (TurnsOn _ _) (sym w.row-is) (turns_no_row _ _ _ _ w.in_default.ensures.lookup.3)
    ])

pub returns : goal.returns
returns c = turns_all _ _ _ _ _ (omega (arith, c.loop-node-test.false)) c.loop-node.invariant
