use Rattle.cfgfindings.proofs.TargetTexts.{target_reported}
use Rattle.cfgfindings.proofs.cyclic_rules.cyclic_group.Goals as goal

pub returns : goal.returns
returns c =
    target_reported c.args.grammar.now c.to_storage.result c.args.rule c.to_storage.ensures c.rule_name_str-name.result.now c.rule_name_str-name.ensures
    c.args.rules.now c.in_ok-spans.spans.items c.in_ok-spans.ensures c.args.path.now _ _ c.in_ok-text.ensures.ok c.in_ok-write_path.ensures _ c.new.ensures
