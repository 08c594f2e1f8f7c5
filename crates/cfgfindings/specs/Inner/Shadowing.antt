-- Rules that give way to a token of the same name.
use Rattle.std.specs.Prelude.{ℕ, List, Contains}
use Rattle.cfgrammar.specs.Syntax.{Syntax}
use Rattle.cfgrammar.specs.Unused.{IsStart, RuleName}
use Rattle.cfgfindings.specs.Findings.{IsContained}

-- No production contains the rule with this name; and if it is the start rule, a `%token` declares the token at this index.
abbrev pub GivesWay : Syntax → List ℕ → ℕ → Type 0
GivesWay s name token = (IsContained s name → ⊥) × (IsStart s (RuleName name) → Contains s.token_directives token)
