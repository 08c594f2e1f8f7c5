use Rattle.std.proofs.Common.{◌≡◌, [], Contains, length, get_or, arith, ap, subst}
use Rattle.std.proofs.lemmas.List.{get_or_default}
use Rattle.std.proofs.lemmas.List.Elements.{Contains-get_or}
use Rattle.search.proofs.Each.{each_all, each_more, each_none}
use Rattle.cfgcycles.specs.declared.step_paths.UnitStep.{UnitStep}
use Rattle.cfgcycles.proofs.step_edges.StepEdgesEdgesBits.reach_from.Goals as goal

pub loop-step-init : goal.loop-step-init
loop-step-init c = each_none _ _

pub reach-requires : goal.reach-requires
reach-requires c =
    let all = c.of-step-items.result.now in
    let i = c.loop-step.step-index in
    let none : UnitStep = record { rule = 0; production = 0; index = 0 } in
    let has : Contains (get_or c.self.inside.steps.now c.args.node []) (get_or all i none)
    = subst (λ l. Contains l (get_or all i none)) c.of-step-items.ensures (Contains-get_or all i none c.loop-step-test.true) in
    let within = c.self.invariant c.args.node (get_or all i none) has in
    omega (arith, within, c.loop-step.invariant.shape, c.requires.nodes, ap length c.self.view_is)

pub loop-step-preserved : goal.loop-step-preserved
loop-step-preserved c =
    let all = c.of-step-items.result.now in
    let i = c.loop-step.step-index in
    let none : UnitStep = record { rule = 0; production = 0; index = 0 } in
    each_more (λ (step : UnitStep) rule. rule ≡ step.rule) all i (get_or all i none) _ _ _ c.loop-step-test.true (get_or_default all i none (get_or all i none) c.loop-step-test.true)
    c.loop-step.invariant c.in_ok-reach.ensures
