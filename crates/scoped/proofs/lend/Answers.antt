use Rattle.std.proofs.Common.{refl}
use Rattle.scoped.proofs.lend.Goals as goal

pub returns-in-Ok-clause-lent : goal.returns-in-Ok-clause-lent
returns-in-Ok-clause-lent g c = rw c.in-Ok.is (_, c.next.ensures, refl)
