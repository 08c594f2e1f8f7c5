use Rattle.cfgerrors.proofs.HeaderErrorLemmas.{error_kind_iff}
use Rattle.cfgerrors.proofs.laws.header_error_kinds_are_what_they_show.Goals as goal

pub returns-clause-equal : goal.returns-clause-equal
returns-clause-equal c = error_kind_iff
