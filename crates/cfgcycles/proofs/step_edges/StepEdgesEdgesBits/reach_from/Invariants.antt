use Rattle.std.proofs.Common.{◌≡◌, take}
use Rattle.search.specs.Reachable.{FoundBy, Reaches}
use Rattle.cfgcycles.specs.declared.step_paths.UnitStep.{UnitStep}
use Rattle.cfgcycles.proofs.step_edges.StepEdgesEdgesBits.reach_from.Given as goal

-- what the steps so far lead to is reached
abbrev pub invariant-loop-step : goal.invariant-loop-step
invariant-loop-step l = Reaches (FoundBy (λ (step : UnitStep) rule. rule ≡ step.rule) (take l.step-index l.step-items)) l.fn.search l.search
