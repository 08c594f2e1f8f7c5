use Rattle.std.proofs.Common.{sym, ap}
use Rattle.cfgitems.specs.SyntaxView.{rule_view}
use Rattle.cfgitems.specs.declared.rule.Rule.{Rule}
use Rattle.cfgitems.proofs.Views.{longer, changed-set_value_at, changed-no_value_at}
use Rattle.cfgitems.proofs.rule.list_production_at.Goals as goal

pub returns-in_ok-push : goal.returns-in_ok-push
returns-in_ok-push c = λ name is.
    let old = c.in-Some.owner.now in
    let new : Rule = record { name = old.name; pidxs = c.push.new.self; actiont = old.actiont } in
    changed-set_value_at name (longer c.args.index) c.args.rules.now.entries c.args.at old new c.in-Some.ensures.unique is c.in-Some.ensures.value
    (ap (λ offsets. record (rule_view old) { productions = offsets }) c.in_ok-push.ensures.items)

pub returns-in_default : goal.returns-in_default
returns-in_default c = λ name is.
    sym (changed-no_value_at name (longer c.args.index) c.args.rules.now.entries c.args.at is c.in_default.ensures.value)
