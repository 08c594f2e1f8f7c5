use Rattle.std.proofs.Common.{◌≡◌, ◌∙◌, slice_index, arith, sym, subst}
use Rattle.search.specs.Reachable.{FoundBy}
use Rattle.lr_states.specs.Inner.Reached.{IsInRow, TurnsOn}
use Rattle.lr_states.proofs.TurnedOn.{listed_within, turns_all, turns_more, turns_no_own, turns_own, turns_then}
use Rattle.lr_states.proofs.lookaheads.reached.add_nodes.Goals as goal
use Rattle.lr_states.proofs.lookaheads.reached.add_nodes.Goals.{then-node-len, else-node-len}

pub add_rows-requires-clause-nodes : goal.add_rows-requires-clause-nodes
add_rows-requires-clause-nodes c = listed_within _ _ _ _ c.requires.within c.requires.numbers c.of.ensures

pub loop-node-preserved : goal.loop-node-preserved
loop-node-preserved c =
    let node = slice_index c.args.nodes.now c.loop-node.node-index in
    turns_more _ _ _ _ _ _ c.loop-node-test.true c.loop-node.invariant
    (turns_then (λ t. node ≡ t) _ _ c.if-node-len.row _
    (elim c.if-node-len.branch [
      | then-node-len w ↦ subst (TurnsOn _ _) (sym (w.row-is ∙ w.set.ensures.bits)) (turns_own _ _ (omega (arith, w.if-node-len.true, c.len.ensures)))
      | else-node-len w ↦ subst (TurnsOn _ _) (sym w.row-is) (turns_no_own _ _ (omega (arith, w.if-node-len.false, c.len.ensures)))
    ])
    (subst (λ l. TurnsOn (FoundBy (IsInRow c.args.numbers.now c.args.rows.now) l) c.if-node-len.row c.add_rows.new.row) c.of.ensures c.add_rows.ensures))

pub returns : goal.returns
returns c = turns_all _ _ _ _ _ (omega (arith, c.loop-node-test.false)) c.loop-node.invariant
