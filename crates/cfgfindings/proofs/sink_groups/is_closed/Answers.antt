use Rattle.std.proofs.Common.{◌<◌, Contains, get_or, sym, subst}
use Rattle.std.proofs.lemmas.List.{get_or_default, take_all}
use Rattle.cfgfindings.specs.Inner.SinkGroups.{AllLeadTo, LeadTo}
use Rattle.cfgfindings.proofs.SinkGroups.{lead_more_rules, leads_elsewhere}
use Rattle.cfgfindings.proofs.sink_groups.is_closed.Goals as goal

pub lead_to-requires : goal.lead_to-requires
lead_to-requires c = λ step h.
    subst (λ n. step.rule < n) (sym c.requires.entries)
    (c.requires.within (get_or c.args.rules.now c.loop-rule.rule-index 0) step (subst (λ l. Contains l step) c.of.ensures h))

pub returns-then-not-lead_to : goal.returns-then-not-lead_to
returns-then-not-lead_to c =
    let rules = c.args.rules.now in
    let n = c.loop-rule.rule-index in
    let lt = c.loop-rule-test.true in
    let rule = get_or rules n 0 in
    leads_elsewhere rules n rule lt (get_or_default rules n 0 rule lt) c.args.steps.now c.args.entries.now c.args.first
    (subst (λ l. AllLeadTo l c.args.entries.now c.args.first → ⊥) c.of.ensures c.if-not-lead_to.ensures)

pub loop-rule-preserved : goal.loop-rule-preserved
loop-rule-preserved c =
    let rules = c.args.rules.now in
    let n = c.loop-rule.rule-index in
    let lt = c.loop-rule-test.true in
    let rule = get_or rules n 0 in
    lead_more_rules rules n rule lt (get_or_default rules n 0 rule lt) c.args.steps.now c.args.entries.now c.args.first c.loop-rule.invariant
    (subst (λ l. AllLeadTo l c.args.entries.now c.args.first) c.of.ensures c.if-not-lead_to.ensures)

pub returns : goal.returns
returns c =
    subst (LeadTo c.args.steps.now c.args.entries.now c.args.first) (take_all c.loop-rule.rule-index c.args.rules.now c.loop-rule-test.false) c.loop-rule.invariant
