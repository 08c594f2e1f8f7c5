use Rattle.std.proofs.Common.{◌<◌, Contains, length, get_or, arith, refl, sym, ap, subst, ◌∙◌}
use Rattle.std.proofs.lemmas.List.{get_or_default, take_all}
use Rattle.std.proofs.lemmas.List.Elements.{Contains-get_or}
use Rattle.lemmas.proofs.Contained.{contains_none}
use Rattle.cfgcycles.specs.StepLists.{AreWithin, HasStep}
use Rattle.cfgcycles.specs.Inner.Layers.{Finds}
use Rattle.cfgcycles.proofs.Finding.{finds_as, finds_next, finds_nothing}
use Rattle.cfgcycles.proofs.shortest.Layers.next.Goals as goal

pub loop-from-init : goal.loop-from-init
loop-from-init c =
    (refl, subst (Finds _ _ _ _ _) (sym c.new-next.ensures.items) (finds_nothing _ _ _ _ (λ a step h. contains_none a h.0)))

pub note_steps-requires-clause-rule : goal.note_steps-requires-clause-rule
note_steps-requires-clause-rule c =
    let layer = c.args.layer.now in
    let i = c.loop-from.from-index in
    subst (λ l. get_or layer i 0 < length l) (sym c.loop-from.invariant.0)
    (c.requires.layer (get_or layer i 0) (Contains-get_or layer i 0 (omega (arith, c.loop-from-test.true))))

pub note_steps-requires-clause-within : goal.note_steps-requires-clause-within
note_steps-requires-clause-within c = subst AreWithin (sym c.loop-from.invariant.0) c.requires.within

pub note_steps-requires-clause-shape : goal.note_steps-requires-clause-shape
note_steps-requires-clause-shape c = c.loop-from.invariant.1.shape ∙ c.requires.shape ∙ sym (ap length c.loop-from.invariant.0)

pub loop-from-preserved : goal.loop-from-preserved
loop-from-preserved c =
    let layer = c.args.layer.now in
    let i = c.loop-from.from-index in
    let lt : i < length layer = omega (arith, c.loop-from-test.true) in
    let steps = c.loop-from.invariant.0 in (
      c.in_ok-note_steps.ensures.steps ∙ steps,
      finds_next _ _ layer i (get_or layer i 0) _ _ _ _ _ _ lt (get_or_default layer i _ 0 lt) c.loop-from.invariant.1
          (finds_as _ _ _ _ _ _ _ (λ a step h. (h.0, subst (λ l. HasStep l a step) steps h.1)) (λ a step h. (h.0, subst (λ l. HasStep l a step) (sym steps) h.1))
          c.in_ok-note_steps.ensures.found),
    )

pub returns-clause-steps : goal.returns-clause-steps
returns-clause-steps c = c.loop-from.invariant.0

pub returns-clause-found : goal.returns-clause-found
returns-clause-found c =
    let all = take_all c.loop-from.from-index c.args.layer.now (omega (arith, c.loop-from-test.false, c.loop-from.auto.from-index-end)) in
    finds_as _ _ _ _ _ _ _
    (λ a step h. (subst (λ l. Contains l a) all h.0, h.1))
    (λ a step h. (subst (λ l. Contains l a) (sym all) h.0, h.1))
    c.loop-from.invariant.1
