use Rattle.std.proofs.Common.{option_map, arith, ap}
use Rattle.cfgnumbers.specs.Numbered.{NumberedProduction}
use Rattle.cfgnumbers.proofs.Beside.{in_rows, row_beside}
use Rattle.cfgnumbers.proofs.production_rows.ProductionRows.row.Goals as goal

pub index-requires : goal.index-requires
index-requires g c = omega (arith, in_rows g.S.Storage.number c.self.inside.rules.items c.self.inside.symbols c.self.inside.rows.items c.self.invariant _ c.self.view_is c.args.index c.requires)

pub returns : goal.returns
returns g c =
    let h = row_beside g.S.Storage.number c.self.inside.rules.items c.self.inside.symbols c.self.inside.rows.items c.self.invariant _ c.self.view_is c.args.index c.requires c.index.result.now c.index.ensures in record {
      span = ap (option_map (λ (p : NumberedProduction). p.span)) h.2;
      precedence = ap (option_map (λ (p : NumberedProduction). p.precedence)) h.2;
      action = ap (option_map (λ (p : NumberedProduction). p.action)) h.2;
      action_span = ap (option_map (λ (p : NumberedProduction). p.action_span)) h.2;
    }
