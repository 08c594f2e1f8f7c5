use Rattle.std.proofs.Common.{arith}
use Rattle.cfgnumbers.proofs.Beside.{beside-length}
use Rattle.cfgnumbers.proofs.production_rows.ProductionRows.len.Goals as goal

pub returns : goal.returns
returns g c = omega (arith, c.len.ensures, beside-length g.S.Storage.number c.self.inside.rules.items c.self.inside.symbols c.self.inside.rows.items c.self.invariant _ c.self.view_is)
