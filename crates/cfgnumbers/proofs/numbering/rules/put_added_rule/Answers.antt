use Rattle.std.proofs.Common.{◌∷◌, ◌++◌, [], map, None, ◌∙◌}
use Rattle.cfgnumbers.specs.TablesView.{rule_view}
use Rattle.cfgnumbers.proofs.RowLemmas.{entry_put}
use Rattle.cfgnumbers.proofs.numbering.rules.put_added_rule.Goals as goal

pub returns : goal.returns
returns g c =
    entry_put (rule_view g.S.Storage.number) c.args.rows.now.entries c.insert.new.self.entries c.in_ok-name.name c.args.name.now _
    c.in_ok-name.ensures.ok c.requires.new c.in_ok-insert.ensures.entries
    ∙ (λ i. map (rule_view g.S.Storage.number) c.args.rows.now.entries
    ++ record { name = c.in_ok-name.ensures.ok i; span = c.new.ensures i; productions = c.in_ok-positions_in_order.ensures i; action_type = None } ∷ [])
