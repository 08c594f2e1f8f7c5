-- What a list of symbols costs in total, where some rules may have no cost.
use Rattle.std.specs.Prelude.{ℕ, ◌+◌, List, [], ◌∷◌, Option, Some, None}
use Rattle.derivation.specs.Grammar.{Sym, Rule, Token}

-- the sum of two costs; `None` if either is missing
abbrev pub plus : Option ℕ → Option ℕ → Option ℕ
plus None n = None
plus (Some m) None = None
plus (Some m) (Some n) = Some (m + n)

-- what the symbols cost in total, if each has a cost
abbrev pub sum_of : (Sym → Option ℕ) → List Sym → Option ℕ
sum_of costs [] = Some 0
sum_of costs (s ∷ a) = plus (costs s) (sum_of costs a)

-- what a symbol costs, by the costs of tokens and of rules
abbrev pub symbol_cost : (ℕ → ℕ) → (ℕ → Option ℕ) → Sym → Option ℕ
symbol_cost cost least (Token t) = Some (cost t)
symbol_cost cost least (Rule r) = least r
