use Rattle.std.proofs.Common.{refl, sym, ap, ◌∙◌}
use Rattle.cfgrammar.proofs.Shows.{rule_named}
use Rattle.cfgfindings.specs.Shown.{rule_name}
use Rattle.cfgfindings.proofs.Read.{production_seen, rule_read}
use Rattle.cfgfindings.proofs.repeats.owner_name.Goals as goal

pub returns : goal.returns
returns c =
    let g = c.args.grammar.now in
    let p = c.args.number in
    let rule = c.prod_to_rule.result.0 in
    let owner = production_seen g g refl p c.to_storage.result c.to_storage.ensures rule (λ production. production.rule) c.prod_to_rule.ensures.value in
    sym (ap (rule_name g) (rule_read g p c.requires rule owner) ∙ rule_named g rule c.rule_name_str.result.now c.rule_name_str.ensures)
