use Rattle.std.proofs.Common.{inr}
use Rattle.derivation.proofs.Follows.{derived_follow, end_of_start}
use Rattle.derivation.proofs.follow_is_closed.Goals as goal

pub returns-clause-closed : goal.returns-clause-closed
returns-clause-closed c = derived_follow

pub returns-clause-end : goal.returns-clause-end
returns-clause-end c = λ g t e. inr (e, end_of_start g)
