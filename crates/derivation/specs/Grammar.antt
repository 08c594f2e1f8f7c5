-- A grammar whose rules (nonterminals) and tokens (terminals) are numbers.
use Rattle.std.specs.Prelude.{ℕ, ◌+◌, ◌<◌, List, All, Contains}

-- a symbol of a production
pub data Sym : Type 0 where
  Rule : ℕ → Sym
  Token : ℕ → Sym

pub record Production : Type 0 where
  pub rule : ℕ
  pub symbols : List Sym

-- rules are the numbers less than `rules`, tokens those less than `tokens`; rule 0 is the start rule, the last token the end token
pub record Grammar : Type 0 where
  pub rules : ℕ
  pub tokens : ℕ
  pub productions : List Production

-- what a production may contain: a rule, or a token other than the end token
abbrev pub IsSymbolOf : Grammar → Sym → Type 0
IsSymbolOf g (Rule r) = r < g.rules
IsSymbolOf g (Token t) = t + 1 < g.tokens

pub record IsGrammar (g : Grammar) : Type 0 where
  pub start : 0 < g.rules
  pub finish : 0 < g.tokens
  pub owners : All (λ p. p.rule < g.rules) g.productions
  pub symbols : All (λ p. All (IsSymbolOf g) p.symbols) g.productions

-- some production of the rule has these symbols
abbrev pub HasProduction : Grammar → ℕ → List Sym → Type 0
HasProduction g rule symbols = Contains g.productions (record { rule = rule; symbols = symbols })
