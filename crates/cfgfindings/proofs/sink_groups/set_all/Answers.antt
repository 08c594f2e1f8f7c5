use Rattle.std.proofs.Common.{◌<◌, ℕ, get_or, sym, subst, ◌∙◌, length-set}
use Rattle.std.proofs.lemmas.List.{get_or_default, take_all}
use Rattle.cfgfindings.specs.Inner.SinkGroups.{IsSet}
use Rattle.cfgfindings.proofs.SinkGroups.{set_more}
use Rattle.cfgfindings.proofs.sink_groups.set_all.Goals as goal

pub loop-rule-preserved : goal.loop-rule-preserved
loop-rule-preserved c =
    let rules = c.args.rules.now in
    let n = c.loop-rule.rule-index in
    let lt = c.loop-rule-test.true in
    let rule = get_or rules n 0 in
    let mid = c.loop-rule.entries.items in
    let before = c.loop-rule.invariant in
    let within = subst (λ k. rule < k) (sym before.entries) (c.requires n 0 lt) in
    record {
      entries = length-set mid rule c.args.entry ∙ before.entries;
      set = set_more rules n rule lt (get_or_default rules n 0 rule lt) c.args.entry c.args.entries.now.items mid within before.set;
    }

pub returns-clause-set : goal.returns-clause-set
returns-clause-set c =
    subst (λ l. (rule : ℕ) → IsSet l c.args.entry c.args.entries.now.items c.loop-rule.entries.items rule)
    (take_all c.loop-rule.rule-index c.args.rules.now c.loop-rule-test.false) c.loop-rule.invariant.set
