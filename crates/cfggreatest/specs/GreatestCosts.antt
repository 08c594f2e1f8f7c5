-- The results for a rule's greatest cost.
use Rattle.std.specs.Prelude.{◌≡◌, ◌↔◌, ℕ, ◌<◌, ◌≤◌, List, Option, Some, None, Result, Ok, Err, length, slice_index_or}
use Rattle.derivation.specs.Grammar.{Sym, Grammar, HasProduction}
use Rattle.derivation.specs.Productive.{Unproductive}
use Rattle.derivation.specs.Costs.{Greatest, Unbounded}
use Rattle.derivation.specs.Cycles.{ReachesGrowingCycle}
use Rattle.derivation.specs.declared.errors.CostError.{CostError}
use Rattle.derivation.specs.declared.errors.CostError.TheVariants.{NoSentence, CostTooLarge}

-- what a result means for a rule
abbrev pub Means : (ℕ → List Sym → Type 0) → (ℕ → ℕ) → ℕ → Result (Option ℕ) CostError → Type 0
Means P cost r (Err NoSentence) = Unproductive P r
Means P cost r (Ok None) = Unbounded P cost r
Means P cost r (Ok (Some c)) = Greatest P cost r c × (c ≤ 65535)
Means P cost r (Err CostTooLarge) = (n : ℕ) × Greatest P cost r n × (65535 < n)

-- the result for each rule of a grammar is true, and it is `None` exactly if the rule reaches a growing cycle
pub record AreGreatestCosts (g : Grammar) (cost : ℕ → ℕ) (results : List (Result (Option ℕ) CostError)) : Type 0 where
  pub rules : length results ≡ g.rules
  pub means : (r : ℕ) → r < g.rules → Means (HasProduction g) cost r (slice_index_or results r (Err NoSentence))
  pub cycles : (r : ℕ) → r < g.rules
      → (slice_index_or results r (Err NoSentence) ≡ Ok None) ↔ ReachesGrowingCycle (HasProduction g) cost r
