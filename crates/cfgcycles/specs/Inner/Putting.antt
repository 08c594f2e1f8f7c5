-- Steps that are put into lists, and symbols that are found to be nullable.
use Rattle.std.specs.Prelude.{◌≡◌, ℕ, ◌<◌, ◌≤◌, ◌⊎◌, ◌↔◌, Bool, false, List, IsTrue, get_or, length}
use Rattle.derivation.specs.Grammar.{Sym, Rule, Token}
use Rattle.cfganalysis.specs.Firsts.{FirstSets, nullable_bit}
use Rattle.cfgcycles.specs.StepLists.{HasStep}
use Rattle.cfgcycles.specs.declared.step_paths.UnitStep.{UnitStep}

-- these steps were put, and nothing else changed
pub record ArePut (Put : ℕ → UnitStep → Type 0) (old new : List (List UnitStep)) : Type 0 where
  pub shape : length new ≡ length old
  pub steps : (rule : ℕ) (step : UnitStep) → HasStep new rule step ↔ (HasStep old rule step ⊎ Put rule step)

-- whether the symbol is a nullable rule
abbrev pub is_empty : FirstSets → Sym → Bool
is_empty x (Rule r) = nullable_bit x r
is_empty x (Token t) = false

-- so are the symbols from one index up to another
abbrev pub AreNullableBetween : FirstSets → List Sym → ℕ → ℕ → Type 0
AreNullableBetween x symbols from to = (k : ℕ) → from ≤ k → k < to → IsTrue (is_empty x (get_or symbols k (Token 0)))
