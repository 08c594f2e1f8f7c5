-- Which rules lead to each other.
use Rattle.std.specs.Prelude.{◌≡◌, ℕ, List, [], get_or}
use Rattle.search.specs.Reachable.{FoundBy}
use Rattle.cfgcycles.specs.declared.step_paths.UnitStep.{UnitStep}
use Rattle.cfgcycles.specs.StepPaths.{Leads}

-- zero or more steps lead from rule a to rule b
abbrev pub Reaches : (ℕ → UnitStep → Type 0) → ℕ → ℕ → Type 0
Reaches Has a b = (path : List UnitStep) × Leads Has a path b

-- a step leads from one rule to another
abbrev pub StepsTo : List (List UnitStep) → ℕ → ℕ → Type 0
StepsTo steps a = FoundBy (λ (step : UnitStep) rule. rule ≡ step.rule) (get_or steps a [])
