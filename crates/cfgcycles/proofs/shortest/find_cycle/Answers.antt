use Rattle.std.proofs.Common.{inl, inr, None, Contains, length, arith, refl, sym, ap, subst, ◌∙◌}
use Rattle.std.proofs.lemmas.List.{length-replicate}
use Rattle.cfgcycles.specs.StepLists.{AreWithin}
use Rattle.cfgcycles.proofs.Finding.{finds_as}
use Rattle.cfgcycles.proofs.Outcomes.{on_ok_from}
use Rattle.cfgcycles.proofs.Ending.{begins, count_fits, ends, found_reached, no_layer, not_noted, some_layer, goes_on, have_layers, layer_within, less_to_do, rule_noted}
use Rattle.cfgcycles.proofs.shortest.find_cycle.Goals as goal
use Rattle.cfgcycles.proofs.shortest.find_cycle.Goals.{then-loop-layers-test+else-not-is_found, else-loop-layers-test}

pub loop-layers-init : goal.loop-layers-init
loop-layers-init c = begins _ _ _ _ _ refl c.requires.found (c.in_ok-layer.ensures.items_if_clones_equal (λ y e. e))

pub is_found-requires : goal.is_found-requires
is_found-requires c = rule_noted _ _ c.requires.rule c.requires.within _ _ _ _ c.loop-layers.invariant

pub overflow_add-count : goal.overflow_add-count
overflow_add-count c =
    let more = some_layer c.loop-layers.layer.items _ c.loop-layers.layer.ok.0 (sym c.loop-layers-test.ensures) in
    let fits = count_fits _ _ c.requires.rule c.requires.within _ _ _ _ c.loop-layers.invariant more (not_noted _ (sym c.if-not-is_found.ensures)) in
    omega (arith, fits, c.loop-layers.layers.found.ok)

pub next-requires-clause-layer : goal.next-requires-clause-layer
next-requires-clause-layer c = λ a h.
    layer_within _ _ c.requires.rule c.requires.within _ _ _ _ c.loop-layers.invariant a (subst (λ l. Contains l a) c.deref.ensures.value h)

pub next-requires-clause-within : goal.next-requires-clause-within
next-requires-clause-within c = subst AreWithin (sym c.loop-layers.invariant.same) c.requires.within

pub next-requires-clause-shape : goal.next-requires-clause-shape
next-requires-clause-shape c = c.loop-layers.invariant.shape ∙ sym (ap length c.loop-layers.invariant.same)

pub loop-layers-preserved : goal.loop-layers-preserved
loop-layers-preserved c =
    let more = some_layer c.loop-layers.layer.items _ c.loop-layers.layer.ok.0 (sym c.loop-layers-test.ensures) in
    goes_on _ _ _ _ _ _ _ _ _ c.loop-layers.invariant more c.in_ok-layer-2.ensures.steps
    (finds_as _ _ _ _ _ _ _ (λ a step h. (subst (λ l. Contains l a) c.deref.ensures.value h.0, h.1)) (λ a step h. (subst (λ l. Contains l a) (sym c.deref.ensures.value) h.0, h.1))
    c.in_ok-layer-2.ensures.found)

pub loop-layers-smaller : goal.loop-layers-smaller
loop-layers-smaller c =
    let more = some_layer c.loop-layers.layer.items _ c.loop-layers.layer.ok.0 (sym c.loop-layers-test.ensures) in
    less_to_do c.args.layers.now.steps.now c.args.rule _ _ _ _ c.loop-layers.layer.items c.in_ok-layer-2.layer.items more c.in_ok-layer-2.ensures.found

pub cycle_of-requires-clause-rule : goal.cycle_of-requires-clause-rule
cycle_of-requires-clause-rule c = rule_noted _ _ c.requires.rule c.requires.within _ _ _ _ c.loop-layers.invariant

pub cycle_of-requires-clause-layers : goal.cycle_of-requires-clause-layers
cycle_of-requires-clause-layers c = have_layers _ _ c.requires.rule c.requires.within _ _ _ _ c.loop-layers.invariant

pub returns-clause-cycle : goal.returns-clause-cycle
returns-clause-cycle c =
    let searching = c.loop-layers.invariant in
    ends _ _ c.requires.rule c.requires.within _ _ _ _ searching c.cycle_of.result
    (elim c.loop-layers-test.branch [
      | then-loop-layers-test+else-not-is_found w ↦ inr (sym w.if-not-is_found.ensures)
      | else-loop-layers-test w ↦ inl (no_layer c.loop-layers.layer.items _ c.loop-layers.layer.ok.0 (sym w.loop-layers-test.ensures))
    ])
    c.cycle_of.ensures

pub returns-clause-steps : goal.returns-clause-steps
returns-clause-steps c = on_ok_from c.cycle_of.result c.loop-layers.invariant.same

pub returns-clause-entries : goal.returns-clause-entries
returns-clause-entries c = on_ok_from c.cycle_of.result
    (c.loop-layers.invariant.shape ∙ sym (ap length c.requires.found ∙ length-replicate (length c.args.layers.now.steps.now) None))

pub returns-clause-found : goal.returns-clause-found
returns-clause-found c = on_ok_from c.cycle_of.result (found_reached _ _ c.requires.rule c.requires.within _ _ _ _ c.loop-layers.invariant)
