use Rattle.std.proofs.Common.{◌<◌, Contains, length, get_or, arith, refl, sym, subst, ◌∙◌}
use Rattle.std.proofs.lemmas.List.{get_or_default, take_all}
use Rattle.std.proofs.lemmas.List.Elements.{Contains-get_or}
use Rattle.lemmas.proofs.Contained.{contains_none}
use Rattle.cfgcycles.specs.declared.step_paths.UnitStep.{UnitStep}
use Rattle.cfgcycles.specs.StepLists.{HasStep}
use Rattle.cfgcycles.proofs.Finding.{finds_as, finds_more, finds_nothing}
use Rattle.cfgcycles.proofs.shortest.Layers.note_steps.Goals as goal

pub loop-step-init : goal.loop-step-init
loop-step-init c = (refl, finds_nothing _ _ _ _ (λ a step h. contains_none step h.1))

pub note-requires : goal.note-requires
note-requires c =
    let path = c.of-step-items.result.now in
    let i = c.loop-step.step-index in
    let none : UnitStep = record { rule = 0; production = 0; index = 0 } in
    let lt : i < length path = omega (arith, c.loop-step-test.true) in
    let step = get_or path i none in
    let has = subst (λ l. Contains l step) c.of-step-items.ensures (Contains-get_or path i none lt) in
    let within : step.rule < length c.args.self.now.steps.now = c.requires.within c.args.from step has in
    subst (λ m. step.rule < m) (sym (c.loop-step.invariant.1.shape ∙ c.requires.shape)) within

pub loop-step-preserved : goal.loop-step-preserved
loop-step-preserved c =
    let path = c.of-step-items.result.now in
    let i = c.loop-step.step-index in
    let none : UnitStep = record { rule = 0; production = 0; index = 0 } in
    let lt : i < length path = omega (arith, c.loop-step-test.true) in (
      c.in_ok-note.ensures.steps ∙ c.loop-step.invariant.0,
      finds_more _ _ path i (get_or path i none) _ _ _ _ _ _ lt (get_or_default path i _ none lt) c.loop-step.invariant.1 c.in_ok-note.ensures.found,
    )

pub returns-clause-steps : goal.returns-clause-steps
returns-clause-steps c = c.loop-step.invariant.0

pub returns-clause-found : goal.returns-clause-found
returns-clause-found c =
    let path = c.of-step-items.result.now in
    let all = take_all c.loop-step.step-index path (omega (arith, c.loop-step-test.false, c.loop-step.auto.step-index-end)) ∙ c.of-step-items.ensures in
    finds_as _ _ _ _ _ _ _
    (λ a step h. (h.0, subst (λ n. HasStep c.args.self.now.steps.now n step) (sym h.0) (subst (λ l. Contains l step) all h.1)))
    (λ a step h. (h.0, subst (λ l. Contains l step) (sym all) (subst (λ n. HasStep c.args.self.now.steps.now n step) h.0 h.1)))
    c.loop-step.invariant.1
