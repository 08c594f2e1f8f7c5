use Rattle.std.proofs.Common.{◌∙◌}
use Rattle.cfgerrors.proofs.ErrorLemmas.{eq_kind_view, kind_view_iff}
use Rattle.cfgfaults.proofs.start.ASTModificationErrorPartialEq.eq.Goals as goal

pub returns : goal.returns
returns c =
    let x = c.self.inside.kind in
    let y = c.other.inside.kind in
    rw (← c.self.view_is, ← c.other.view_is) (record { value = c.eq.ensures ∙ eq_kind_view x y; same = rw c.eq.ensures (kind_view_iff x y) })
