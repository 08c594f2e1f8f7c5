use Rattle.std.proofs.Common.{arith}
use Rattle.cfgnumbers.proofs.Beside.{in_rules, rule_beside}
use Rattle.cfgnumbers.proofs.production_rows.ProductionRows.rule.Goals as goal

pub index-requires : goal.index-requires
index-requires g c = omega (arith, in_rules g.S.Storage.number c.self.inside.rules.items c.self.inside.symbols c.self.inside.rows.items c.self.invariant _ c.self.view_is c.args.index c.requires)

pub returns : goal.returns
returns g c = rule_beside g.S.Storage.number c.self.inside.rules.items c.self.inside.symbols c.self.inside.rows.items c.self.invariant _ c.self.view_is c.args.index c.requires c.index.result.now c.index.ensures
