-- Steps inside components, and the groups that these give.
use Rattle.std.specs.Prelude.{◌≡◌, ℕ, ◌↔◌, List, Some, Option, MatchOption, slice_get, slice_index}
use Rattle.cfgcycles.specs.declared.groups.CyclicGroup.{CyclicGroup}
use Rattle.cfgcycles.specs.declared.step_paths.UnitStep.{UnitStep}
use Rattle.cfgcycles.specs.StepLists.{HasStep}
use Rattle.cfgcycles.specs.StepPaths.{IsCycle, IsShortestCycle}

-- the steps that lead from rules to rules with the same number
abbrev pub AreInner : List (List UnitStep) → List ℕ → List (List UnitStep) → Type 0
AreInner steps numbers inner = (rule : ℕ) (step : UnitStep)
    → HasStep inner rule step ↔ (HasStep steps rule step × (slice_index numbers rule ≡ slice_index numbers step.rule))

-- these rules and a shortest cycle of the first of them, which is the rule; `None` if it isn't, or has no cycle
abbrev pub IsGroupAmong : (ℕ → UnitStep → Type 0) → ℕ → List ℕ → Option CyclicGroup → Type 0
IsGroupAmong Has rule rules found = MatchOption found (slice_get rules 0 ≡ Some rule → (path : List UnitStep) → IsCycle Has rule path → ⊥)
    (λ group. (slice_get rules 0 ≡ Some rule) × (group.rules.items ≡ rules) × IsShortestCycle Has rule group.cycle.items)
