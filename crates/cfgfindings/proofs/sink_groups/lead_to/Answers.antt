use Rattle.std.proofs.Common.{◌<◌, None, get_or, length, arith, subst, ◌∙◌}
use Rattle.std.proofs.lemmas.List.{get_or_default, take_all}
use Rattle.std.proofs.lemmas.List.Elements.{Contains-get_or}
use Rattle.cfgrammar.specs.UnitStep.{UnitStep}
use Rattle.cfgfindings.specs.Inner.SinkGroups.{AllLeadTo}
use Rattle.cfgfindings.proofs.SinkGroups.{lead_more, same_entry}
use Rattle.cfgfindings.proofs.sink_groups.lead_to.Goals as goal

abbrev no_step : UnitStep
no_step = record { rule = 0; production = 0; index = 0 }

pub offset_bounds-entries-step : goal.offset_bounds-entries-step
offset_bounds-entries-step c =
    let steps = c.args.steps.now in
    let n = c.loop-step.step-index in
    let within : (get_or steps n no_step).rule < length c.args.entries.now = c.requires (get_or steps n no_step) (Contains-get_or steps n no_step c.loop-step-test.true) in
    omega (arith, within)

pub bounds-entries-step : goal.bounds-entries-step
bounds-entries-step c =
    let steps = c.args.steps.now in
    let n = c.loop-step.step-index in
    c.requires (get_or steps n no_step) (Contains-get_or steps n no_step c.loop-step-test.true)

pub loop-step-preserved : goal.loop-step-preserved
loop-step-preserved c =
    let steps = c.args.steps.now in
    let n = c.loop-step.step-index in
    let lt = c.loop-step-test.true in
    let step = get_or steps n no_step in
    let within = c.requires step (Contains-get_or steps n no_step lt) in
    lead_more steps n step lt (get_or_default steps n no_step step lt) c.args.entries.now c.args.first c.loop-step.invariant
    (get_or_default c.args.entries.now step.rule None _ within ∙ same_entry _ c.args.first c.if-ne.ensures)

pub returns : goal.returns
returns c = subst (λ l. AllLeadTo l c.args.entries.now c.args.first) (take_all c.loop-step.step-index c.args.steps.now c.loop-step-test.false) c.loop-step.invariant
