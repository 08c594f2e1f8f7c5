-- For each production, the first one of the same rule with the same symbols.
use Rattle.std.specs.Prelude.{◌≡◌, ℕ, ◌<◌, ◌≤◌, List, length, map, slice_index_or}
use Rattle.cfgrammar.specs.Grammar.{Grammar, Production}
use Rattle.cfgrammar.specs.NumberedSymbols.{sym_of}
use Rattle.cfgrammar.specs.Openings.{nth_production}
use Rattle.cfgfindings.specs.declared.repeats.Shape.{Shape}

-- the rule and the symbols of a production, as they are read
abbrev pub production_of : Shape → Production
production_of shape = record { rule = shape.rule; symbols = map (sym_of (λ number. number)) shape.symbols.now }

module _ (g : Grammar) where
  -- the first of the productions with the same rule and symbols as this one
  pub record IsFirst (p first : ℕ) : Type 0 where
    pub upto : first ≤ p
    pub same : nth_production g first ≡ nth_production g p
    pub least : (other : ℕ) → other < p → nth_production g other ≡ nth_production g p → first ≤ other

  -- the first ones for the first n productions
  pub record AreFirsts (n : ℕ) (firsts : List ℕ) : Type 0 where
    pub long : length firsts ≡ n
    pub each : (p : ℕ) → p < n → IsFirst p (slice_index_or firsts p 0)
