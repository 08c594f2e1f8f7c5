-- Rules as the nodes of a graph: each leads to those that it costs as much as.
use Rattle.std.specs.Prelude.{ℕ, Bool, List, Contains}
use Rattle.derivation.specs.Grammar.{Sym, Rule, Grammar, HasProduction}
use Rattle.cfganalysis.specs.ProductiveRules.{AreProductiveSymbols}

-- among these symbols, which are tokens and productive rules, is the rule
pub record IsAmong (productive : List Bool) (symbols : List Sym) (to : ℕ) : Type 0 where
  pub all : AreProductiveSymbols productive symbols
  pub holds : Contains symbols (Rule to)

-- a production of one rule contains the other, and all rules in it are productive
abbrev pub IsEdge : Grammar → List Bool → ℕ → ℕ → Type 0
IsEdge g productive from to = (symbols : List Sym) × HasProduction g from symbols × IsAmong productive symbols to
