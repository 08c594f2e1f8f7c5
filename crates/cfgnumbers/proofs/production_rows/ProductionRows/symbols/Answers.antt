use Rattle.cfgnumbers.proofs.Beside.{in_lists, symbols_beside}
use Rattle.cfgnumbers.proofs.production_rows.ProductionRows.symbols.Goals as goal

pub get-requires : goal.get-requires
get-requires g c = in_lists g.S.Storage.number c.self.inside.rules.items c.self.inside.symbols c.self.inside.rows.items c.self.invariant _ c.self.view_is c.args.index c.requires

pub returns : goal.returns
returns g c = symbols_beside g.S.Storage.number c.self.inside.rules.items c.self.inside.symbols c.self.inside.rows.items c.self.invariant _ c.self.view_is c.args.index c.requires c.get.result.now c.get.ensures
