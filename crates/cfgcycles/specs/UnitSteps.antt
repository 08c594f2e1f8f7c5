-- The unit steps of a grammar: from rule to rule, by productions in which all other symbols are nullable.
use Rattle.std.specs.Prelude.{◌≡◌, ℕ, ◌+◌, ◌<◌, ◌↔◌, List, [], Some, drop, length, slice_get, take}
use Rattle.derivation.specs.Grammar.{Rule, Grammar, HasProduction}
use Rattle.derivation.specs.Derivation.{Derives}
use Rattle.cfgtables.specs.Openings.{nth_production}
use Rattle.cfgcycles.specs.StepLists.{AreAllInOrder, AreWithin, HasStep}
use Rattle.cfgcycles.specs.declared.step_paths.UnitStep.{UnitStep}

-- The step's production is a production of the rule, and has the step's rule at its index. The symbols before and after that derive the
-- empty list.
pub record IsStep (g : Grammar) (rule : ℕ) (step : UnitStep) : Type 0 where
  pub there : step.production < length g.productions
  pub owner : (nth_production g step.production).rule ≡ rule
  pub holds : slice_get (nth_production g step.production).symbols step.index ≡ Some (Rule step.rule)
  pub prefix : Derives (HasProduction g) (take step.index (nth_production g step.production).symbols) []
  pub back : Derives (HasProduction g) (drop (step.index + 1) (nth_production g step.production).symbols) []

-- a list for each rule of the grammar, which has exactly the steps of the rule, each once, in order
pub record AreSteps (g : Grammar) (steps : List (List UnitStep)) : Type 0 where
  pub rules : length steps ≡ g.rules
  pub within : AreWithin steps
  pub all : (rule : ℕ) (step : UnitStep) → HasStep steps rule step ↔ IsStep g rule step
  pub order : AreAllInOrder steps
