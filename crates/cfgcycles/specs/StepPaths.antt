-- Paths of steps from rule to rule, and cycles: paths from a rule to itself. `Has a s` says that rule a has the step s.
use Rattle.std.specs.Prelude.{◌≡◌, ℕ, ◌<◌, ◌≤◌, List, [], ◌∷◌, length, Option, MatchOption, Vec}
use Rattle.std.specs.Global.{Global}
use Rattle.cfgcycles.specs.declared.step_paths.UnitStep.{UnitStep}

module _ (Has : ℕ → UnitStep → Type 0) where
  -- the first step is a step of a, each further one is a step of the rule that the one before leads to, and the last leads to b
  abbrev pub Leads : ℕ → List UnitStep → ℕ → Type 0
  Leads a [] b = a ≡ b
  Leads a (step ∷ path) b = Has a step × Leads step.rule path b

  -- a path of one or more steps from the rule to itself
  pub record IsCycle (rule : ℕ) (path : List UnitStep) : Type 0 where
    pub some : 0 < length path
    pub leads : Leads rule path rule

  -- a cycle such that none is shorter
  pub record IsShortestCycle (rule : ℕ) (path : List UnitStep) : Type 0 where
    pub itself : IsCycle rule path
    pub least : (other : List UnitStep) → IsCycle rule other → length path ≤ length other

  -- a shortest cycle of the rule, or `None` if the rule has no cycle
  abbrev pub IsShortestOf : ℕ → Option (Vec UnitStep Global) → Type 0
  IsShortestOf rule found = MatchOption found ((path : List UnitStep) → IsCycle rule path → ⊥) (λ path. IsShortestCycle rule path.items)
