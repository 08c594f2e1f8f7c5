-- FIRST sets: the tokens that rules begin with, and the rules that are nullable.
use Rattle.std.specs.Prelude.{◌↔◌, ℕ}
use Rattle.derivation.specs.Grammar.{Grammar, HasProduction}
use Rattle.derivation.specs.First.{First, Nullable}
use Rattle.cfgsets.specs.Table.{with_bit}
pub use Rattle.cfgsets.specs.FirstSets.{FirstSets, FitsGrammar, IsAmongFirsts, IsNullableRule, nullable_bit}

-- the sets contain exactly what derivations show
pub record AreFirsts (g : Grammar) (x : FirstSets) : Type 0 where
  pub fits : FitsGrammar g x
  pub first : (r t : ℕ) → (IsAmongFirsts x r t ↔ First (HasProduction g) r t)
  pub empty : (r : ℕ) → (IsNullableRule x r ↔ Nullable (HasProduction g) r)

-- the sets with this token added to the rule's set
abbrev pub with_first : FirstSets → ℕ → ℕ → FirstSets
with_first x r t = record { firsts = with_bit x.firsts r t; nullable = x.nullable }
