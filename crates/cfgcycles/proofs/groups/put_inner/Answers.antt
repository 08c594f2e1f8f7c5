use Rattle.std.proofs.Common.{◌≡◌, ◌<◌, Contains, get_or, length, slice_index, arith, sym, subst, ◌∙◌}
use Rattle.std.proofs.lemmas.List.{get_or_default, take_all}
use Rattle.std.proofs.lemmas.List.Elements.{Contains-get_or}
use Rattle.cfgcycles.specs.declared.step_paths.UnitStep.{UnitStep}
use Rattle.cfgcycles.specs.Inner.Putting.{ArePut}
use Rattle.cfgcycles.proofs.Members.{inner_left_out, inner_more, inner_put}
use Rattle.cfgcycles.proofs.groups.put_inner.Goals as goal
use Rattle.cfgcycles.proofs.groups.put_inner.Goals.{then-numbers-rule+in_ok-push, else-numbers-rule}

pub offset_bounds-numbers-step : goal.offset_bounds-numbers-step
offset_bounds-numbers-step c =
    let none : UnitStep = record { rule = 0; production = 0; index = 0 } in
    let within = c.requires.within (get_or c.args.path.now c.loop-step.step-index none) (Contains-get_or c.args.path.now c.loop-step.step-index none c.loop-step-test.true) in
    omega (arith, within)

pub bounds-numbers-step : goal.bounds-numbers-step
bounds-numbers-step c =
    let none : UnitStep = record { rule = 0; production = 0; index = 0 } in
    c.requires.within (get_or c.args.path.now c.loop-step.step-index none) (Contains-get_or c.args.path.now c.loop-step.step-index none c.loop-step-test.true)

pub loop-step-preserved : goal.loop-step-preserved
loop-step-preserved c =
    let numbers = c.args.numbers.now in
    let rule = c.args.rule in
    let path = c.args.path.now in
    let i = c.loop-step.step-index in
    let none : UnitStep = record { rule = 0; production = 0; index = 0 } in
    let step = get_or path i none in
    let mid = c.loop-step.inner in
    let within : rule < length mid = subst (λ n. rule < n) (sym c.loop-step.invariant.shape) c.requires.rule in
    inner_more numbers rule path i step c.args.inner.now mid c.if-numbers-rule.inner c.loop-step-test.true (get_or_default path i none step c.loop-step-test.true)
    c.loop-step.invariant
    (elim c.if-numbers-rule.branch [
      | then-numbers-rule+in_ok-push w ↦ subst (ArePut _ mid) (sym (w.inner-is ∙ w.in_ok-push.ensures.ok)) (inner_put numbers rule path mid step within w.if-numbers-rule.true)
      | else-numbers-rule w ↦ subst (ArePut _ mid) (sym w.inner-is) (inner_left_out numbers rule path mid step w.if-numbers-rule.false)
    ])

pub returns : goal.returns
returns c =
    let all = take_all c.loop-step.step-index c.args.path.now (omega (arith, c.loop-step-test.false)) in
    subst (λ l. ArePut (λ a step. (a ≡ c.args.rule) × Contains l step × (slice_index c.args.numbers.now c.args.rule ≡ slice_index c.args.numbers.now step.rule)) c.args.inner.now c.loop-step.inner)
    all c.loop-step.invariant
