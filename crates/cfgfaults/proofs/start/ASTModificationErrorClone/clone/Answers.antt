use Rattle.std.proofs.Common.{◌∙◌}
use Rattle.cfgerrors.proofs.ErrorLemmas.{clone_kind_view}
use Rattle.cfgfaults.proofs.start.ASTModificationErrorClone.clone.Goals as goal

pub returns : goal.returns
returns c =
    record { cases = clone_kind_view c.self.inside.kind c.in_ok-clone.field-0 c.in_ok-clone.ensures.cases ∙ c.self.view_is }
