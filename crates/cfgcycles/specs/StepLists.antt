-- Steps in lists, one for each rule.
use Rattle.std.specs.Prelude.{◌≡◌, ℕ, ◌<◌, ◌⊎◌, ⊤, List, [], ◌∷◌, Contains, get_or, length}
use Rattle.cfgcycles.specs.declared.step_paths.UnitStep.{UnitStep}

-- the rule's list has the step
abbrev pub HasStep : List (List UnitStep) → ℕ → UnitStep → Type 0
HasStep steps rule step = Contains (get_or steps rule []) step

-- each step leads to a rule that has a list
abbrev pub AreWithin : List (List UnitStep) → Type 0
AreWithin steps = (rule : ℕ) (step : UnitStep) → HasStep steps rule step → step.rule < length steps

-- the step is by an earlier production than this one, or has a lower index in it
abbrev pub IsEarlier : ℕ → ℕ → UnitStep → Type 0
IsEarlier production index step = (step.production < production) ⊎ ((step.production ≡ production) × (step.index < index))

-- each step is earlier than those after it, so the list has no step twice
abbrev pub AreInOrder : List UnitStep → Type 0
AreInOrder [] = ⊤
AreInOrder (step ∷ rest) = ((other : UnitStep) → Contains rest other → IsEarlier other.production other.index step) × AreInOrder rest

-- so are those of each rule
abbrev pub AreAllInOrder : List (List UnitStep) → Type 0
AreAllInOrder steps = (rule : ℕ) → AreInOrder (get_or steps rule [])
