use Rattle.std.proofs.Common.{map, sym, ap, ◌∙◌}
use Rattle.cfgitems.specs.SyntaxView.{rule_entry, rule_view}
use Rattle.cfgitems.specs.declared.rule.Rule.{Rule}
use Rattle.cfgitems.proofs.Views.{longer, on_err, changed-absent, changed-nothing, changed-set_value}
use Rattle.cfgitems.proofs.rule.list_production.Goals as goal

pub returns-in_err-push-clause-unchanged : goal.returns-in_err-push-clause-unchanged
returns-in_err-push-clause-unchanged c =
    let name = c.args.name.now in
    let rules = c.args.rules.now.entries in
    let old = c.in-Some.rule.now in
    let new : Rule = record { name = old.name; pidxs = c.push.new.self; actiont = old.actiont } in
    on_err c.from_residual.result (ap (map rule_entry) (c.get_mut.follows.holds new).0
    ∙ changed-set_value name (λ rule. rule) rules old new c.in-Some.ensures.unique (sym c.in-Some.ensures.value)
    (ap (λ offsets. record (rule_view old) { productions = offsets }) c.in_err-push.ensures.items)
    ∙ changed-nothing name (map rule_entry rules))

pub returns-in_ok-push-clause-listed : goal.returns-in_ok-push-clause-listed
returns-in_ok-push-clause-listed c =
    let old = c.in-Some.rule.now in
    let new : Rule = record { name = old.name; pidxs = c.push.new.self; actiont = old.actiont } in
    ap (map rule_entry) (c.get_mut.follows.holds new).0
    ∙ changed-set_value c.args.name.now (longer c.args.index) c.args.rules.now.entries old new c.in-Some.ensures.unique (sym c.in-Some.ensures.value)
    (ap (λ offsets. record (rule_view old) { productions = offsets }) c.in_ok-push.ensures.items)

pub returns-in_default-clause-listed : goal.returns-in_default-clause-listed
returns-in_default-clause-listed c =
    ap (λ m. map rule_entry m.entries) c.get_mut.follows.holds-at-none
    ∙ sym (changed-absent c.args.name.now (longer c.args.index) c.args.rules.now.entries (sym c.in_default.ensures.value))
