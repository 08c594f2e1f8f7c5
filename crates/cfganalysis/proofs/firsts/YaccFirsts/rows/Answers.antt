use Rattle.std.proofs.Common.{ap, ◌∙◌}
use Rattle.cfganalysis.proofs.firsts.YaccFirsts.rows.Goals as goal

pub returns : goal.returns
returns g c = c.new.ensures ∙ ap (λ n. record { firsts = record { columns = n; rows = c.rows.result.now }; nullable = c.self.inside.nullable }) c.columns.ensures
    ∙ ap (λ l. record { firsts = record { columns = c.self.inside.firsts.columns; rows = l }; nullable = c.self.inside.nullable }) c.rows.ensures
    ∙ c.self.view_is
