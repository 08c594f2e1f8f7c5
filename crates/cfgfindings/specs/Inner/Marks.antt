-- Names that a syntax contains, and bits that mark which names of a list are among them.
use Rattle.std.specs.Prelude.{◌≡◌, ℕ, Bool, true, false, List, [], ◌∷◌, ◌++◌, ◌||◌, Some, length, map, slice_get, slice_index_or, MatchBool}
use Rattle.std.specs.List.{flat_map}
use Rattle.std.specs.Option.{option_to_list}
use Rattle.cfgrammar.specs.Building.{has_name}
use Rattle.cfgrammar.specs.Syntax.{Production, RuleSymbol, Symbol, Syntax, TokenSymbol, entry_name}
use Rattle.cfgfindings.specs.declared.marks.Table.{Table}
use Rattle.cfgfindings.specs.declared.marks.Table.TheVariants.{Precedences, Rules, Tokens}

abbrev pub rule_names : Symbol → List (List ℕ)
rule_names (RuleSymbol word) = word.name ∷ []
rule_names (TokenSymbol word) = []

abbrev pub token_names : Symbol → List (List ℕ)
token_names (RuleSymbol word) = []
token_names (TokenSymbol word) = word.name ∷ []

-- the rules among symbols, or the tokens
abbrev pub symbol_names : Bool → Symbol → List (List ℕ)
symbol_names true = rule_names
symbol_names false = token_names

-- the rules that a production contains, and the token that its `%prec` names
abbrev pub contained_names : Production → List (List ℕ)
contained_names production = flat_map rule_names production.symbols

abbrev pub requested_names : Production → List (List ℕ)
requested_names production = option_to_list production.precedence

-- the tokens that a production contains, and the one that its `%prec` names
abbrev pub production_names : Production → List (List ℕ)
production_names production = flat_map token_names production.symbols ++ requested_names production

-- the rules, and the tokens that are given a precedence
abbrev pub rule_keys : Syntax → List (List ℕ)
rule_keys s = map entry_name s.rules

abbrev pub precedence_keys : Syntax → List (List ℕ)
precedence_keys s = map entry_name s.tables.precedences

abbrev pub table_keys : Table → Syntax → List (List ℕ)
table_keys Rules s = rule_keys s
table_keys Tokens s = s.tokens
table_keys Precedences s = precedence_keys s

-- what a production names of a table
abbrev pub names_by : Table → Production → List (List ℕ)
names_by Rules = contained_names
names_by Tokens = requested_names
names_by Precedences = production_names

-- the bits of these names were turned on, each at the index that its name has among the keys; nothing else changed
pub record Marks (keys names : List (List ℕ)) (old new : List Bool) : Type 0 where
  pub shape : length new ≡ length old
  pub each : (n : ℕ) (key : List ℕ) → slice_get keys n ≡ Some key → slice_index_or new n false ≡ (slice_index_or old n false || has_name key names)

-- the bits that are on are those of keys for which P holds
abbrev pub AreMarked : List (List ℕ) → (List ℕ → Type 0) → List Bool → Type 0
AreMarked keys P bits = (n : ℕ) (key : List ℕ) → slice_get keys n ≡ Some key → MatchBool (slice_index_or bits n false) (P key) (P key → ⊥)
