use Rattle.std.proofs.Common.{◌-◌, slice_get, sym, ap, ◌∙◌}
use Rattle.std.specs.Cmp.Lexicographic.{bytes_decides}
use Rattle.cfgitems.proofs.Views.{index_of-entry}
use Rattle.cfgitems.proofs.rule.rule_index.Goals as goal

pub returns-in-Some : goal.returns-in-Some
returns-in-Some c =
    let key = c.in-Some.key.now in
    index_of-entry c.args.name.now c.args.rules.now.entries _ (key, c.in-Some.field-0-1.now) c.len.ensures.unique
    (c.in-Some.ensures.entry ∙ ap (λ n. slice_get c.args.rules.now.entries (n - 1)) (sym c.len.ensures.len))
    (sym c.as_str.ensures.value ∙ (bytes_decides c.as_str.result.now c.args.name.now).0 (sym c.eq.ensures ∙ c.if-eq.true))
