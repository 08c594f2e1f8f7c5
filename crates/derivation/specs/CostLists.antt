-- Costs of tokens and of rules in lists; a rule may have no cost.
use Rattle.std.specs.Prelude.{ℕ, ◌<◌, List, Option, None, slice_index, slice_index_or}
use Rattle.derivation.specs.Grammar.{Sym, Rule, Token}
use Rattle.derivation.specs.Sums.{sum_of, symbol_cost}

-- the cost of rule r, by the list
abbrev pub rule_cost : List (Option ℕ) → ℕ → Option ℕ
rule_cost least r = slice_index_or least r None

-- what a list of symbols costs in total, given the costs of tokens and of rules
abbrev pub sum_by_lists : List ℕ → List (Option ℕ) → List Sym → Option ℕ
sum_by_lists costs least symbols = sum_of (symbol_cost (slice_index costs) (rule_cost least)) symbols

-- a symbol that has an entry in the lists
abbrev pub IsListed : ℕ → ℕ → Sym → Type 0
IsListed rules tokens (Rule r) = r < rules
IsListed rules tokens (Token t) = t < tokens
