-- FIRST sets while they are computed. A production gives its rule the tokens that its symbols begin with, and makes it nullable if they
-- all are.
use Rattle.std.specs.Prelude.{ℕ, true, false, Contains, replicate, slice_set}
use Rattle.derivation.specs.Grammar.{Rule, Production}
use Rattle.derivation.specs.FirstSets.{Covers}
use Rattle.cfgsets.specs.Table.{no_bits}
use Rattle.cfgsets.specs.FirstSets.{FirstSets, IsAmongFirsts, IsNullableRule}

-- the sets contain all that the production gives
abbrev pub CoverFirstsOf : FirstSets → Production → Type 0
CoverFirstsOf x p = Covers (IsNullableRule x) (IsAmongFirsts x) p.rule p.symbols

-- rule r is in the production; what the production gives depends on r's set
abbrev pub ProductionRefers : Production → ℕ → Type 0
ProductionRefers p r = Contains p.symbols (Rule r)

-- the rule's set grown no token, and the rule didn't become nullable
pub record HasNoMoreFirsts (r : ℕ) (old new : FirstSets) : Type 0 where
  pub first : (t : ℕ) → IsAmongFirsts new r t → IsAmongFirsts old r t
  pub empty : IsNullableRule new r → IsNullableRule old r

abbrev pub no_firsts : ℕ → ℕ → FirstSets
no_firsts rules tokens = record { firsts = no_bits rules tokens; nullable = replicate rules false }

-- the sets with this rule added to the nullable ones
abbrev pub with_nullable : FirstSets → ℕ → FirstSets
with_nullable x r = record { firsts = x.firsts; nullable = slice_set x.nullable r true }
