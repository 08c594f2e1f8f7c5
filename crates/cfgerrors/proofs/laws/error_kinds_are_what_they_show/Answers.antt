use Rattle.cfgerrors.proofs.ErrorLemmas.{clone_kind_view, kind_view_iff}
use Rattle.cfgerrors.proofs.laws.error_kinds_are_what_they_show.Goals as goal

pub returns-clause-equal : goal.returns-clause-equal
returns-clause-equal c = kind_view_iff

pub returns-clause-clone : goal.returns-clause-clone
returns-clause-clone c = clone_kind_view
