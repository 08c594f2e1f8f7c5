use Rattle.std.proofs.Common.{◌≡◌, arith, sym, ◌∙◌, true≢false}
use Rattle.lr_conflicts.proofs.InConflicts.{reduction_in}
use Rattle.lr_conflicts.proofs.examples.clashing.is_in.Goals as goal

pub returns-else-clash : goal.returns-else-clash
returns-else-clash c =
    let same : c.args.clash.token ≡ c.args.conflict.now.token = omega (arith, c.if-clash-conflict.false) in
    let by = reduction_in c.args.grammar.now c.args.states.now c.args.conflict.now c.args.clash same (λ on. true≢false (sym on ∙ c.if-clash.false)) in
    ((λ h. by.0 (c.is_reduction_in.ensures.0 h)), (λ has. c.is_reduction_in.ensures.1 (by.1 has)))
