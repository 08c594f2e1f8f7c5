-- The rules that productions contain.
use Rattle.std.specs.Prelude.{ℕ, Contains}
use Rattle.derivation.specs.Grammar.{Rule, Grammar}
use Rattle.cfgtables.specs.Openings.{nth_production}

-- the production with this number contains the rule
abbrev pub ProductionRefersAt : Grammar → ℕ → ℕ → Type 0
ProductionRefersAt g index r = Contains (nth_production g index).symbols (Rule r)
