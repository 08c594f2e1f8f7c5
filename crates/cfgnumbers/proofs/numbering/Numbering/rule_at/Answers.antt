use Rattle.std.proofs.Common.{arith}
use Rattle.cfgnumbers.proofs.numbering.Numbering.rule_at.Goals as goal

pub returns : goal.returns
returns g c = omega (arith, c.to_storage.ensures)
