use Rattle.std.proofs.Common.{rules, ◌∙◌}
use Rattle.cfglines.proofs.Counts.{counted_more}
use Rattle.cfglines.proofs.positions.counts_of.Goals as goal

pub loop-piece-preserved : goal.loop-piece-preserved
loop-piece-preserved c =
    let steps = c.in-Some.ensures.steps in
    let size = c.loop-piece.invariant.2 in
    let counted = counted_more _ _ _ _ c.in-Some.piece.now _ c.loop-piece.invariant.3 steps.1.0 (rw size at steps.1.1) in
    (search rules, tt, steps.0 ∙ size, rw (c.in_ok-push-2.ensures.items, c.begun_in-begun.ensures) counted)
