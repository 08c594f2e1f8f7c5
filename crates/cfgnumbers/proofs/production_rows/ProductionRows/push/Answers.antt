use Rattle.std.proofs.Common.{◌++◌, ◌∷◌, [], ap, ◌∙◌}
use Rattle.cfgnumbers.proofs.Beside.{pushed}
use Rattle.cfgnumbers.proofs.production_rows.ProductionRows.push.Goals as goal

pub returns : goal.returns
returns g c =
    pushed g.S.Storage.number c.self.inside.rules.items c.self.inside.symbols c.self.inside.rows.items c.self.invariant _ c.self.view_is c.args.rule c.args.symbols.now c.args.row _ _ _
    (c.push_reserved.ensures.items ∙ ap (λ l. l ++ c.args.rule ∷ []) c.in_ok-reserve.ensures.items) c.in_ok-push.ensures.ok
    (c.push_reserved-2.ensures.items ∙ ap (λ l. l ++ c.args.row ∷ []) c.in_ok-reserve-2.ensures.items)
