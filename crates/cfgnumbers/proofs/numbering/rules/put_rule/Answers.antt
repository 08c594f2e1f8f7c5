use Rattle.std.proofs.Common.{rules, ◌≡◌, option_map, string_bytes, refl, ◌∙◌}
use Rattle.cfgnumbers.proofs.RowLemmas.{rule_put}
use Rattle.cfgnumbers.proofs.numbering.rules.put_rule.Goals as goal

pub returns : goal.returns
returns g c =
    let action_type : option_map string_bytes c.in_ok-actiont.actiont ≡ option_map string_bytes c.args.rule.now.actiont = search rules in
    rule_put g.S.Storage.number c.args.rows.now.entries c.insert.new.self.entries c.in_ok-name.name c.args.name.now
    (record { span = c.args.rule.now.name.1; prods = c.in_ok-stored_positions.field-0; actiont = c.in_ok-actiont.actiont }) c.args.rule.now
    c.in_ok-name.ensures.ok refl (c.in_ok-stored_positions.ensures ∙ c.deref.ensures.value) action_type c.requires.new c.in_ok-insert.ensures.entries
