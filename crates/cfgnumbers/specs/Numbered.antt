-- A grammar in numbers, and the one that a syntax gives: its rules, productions and tokens are referred to by index.
use Rattle.std.specs.Prelude.{ℕ, ◌+◌, Bool, false, List, [], ◌∷◌, ◌++◌, map, length, Option, Some, None, option_map, codes}
use Rattle.std.specs.List.{filter_map, flat_map, position_or_len, range_with_len, zip}
use Rattle.std.specs.Map.{lookup}
use Rattle.std.specs.Option.{option_and_then, option_map_or, option_or, option_to_list}
use Rattle.std.specs.Str.{bytes_eq}
use Rattle.derivation.specs.Grammar.{Sym, Rule, Token, Production, Grammar}
use Rattle.cfgbase.specs.declared.span.Span.{Span}
use Rattle.cfgitems.specs.Syntax as file
use Rattle.cfgitems.specs.declared.precedence.Precedence.{Precedence}
use Rattle.cfgitems.specs.Building.{has_entry}
use Rattle.cfgitems.specs.Syntax.{Settings, Syntax, RuleSymbol, TokenSymbol, entry_name, index_of, last_of}
use Rattle.cfgast.specs.Check.{nowhere}
use Rattle.cfgkinds.specs.declared.kind.YaccKind.{YaccKind}
use Rattle.cfgkinds.specs.declared.kind.YaccKind.TheVariants.{Eco}

pub record NumberedRule : Type 0 where
  pub name : List ℕ
  pub span : Span
  pub productions : List ℕ
  pub action_type : Option (List ℕ)

-- the end token has no name
pub record NumberedToken : Type 0 where
  pub name : Option (List ℕ)
  pub span : Option Span
  pub precedence : Option Precedence
  pub printed : Option (List ℕ)
  pub avoid_insert : Bool

pub record NumberedProduction : Type 0 where
  pub rule : ℕ
  pub symbols : List Sym
  pub span : Span
  pub precedence : Option Precedence
  pub action : Option (List ℕ)
  pub action_span : Option Span

pub record Numbered : Type 0 where
  pub rules : List NumberedRule
  pub tokens : List NumberedToken
  pub productions : List NumberedProduction
  pub start_production : ℕ  -- the only production of rule 0, which is the start rule
  pub implicit_rule : Option ℕ
  pub settings : Settings

-- what derivations use: the symbols of productions
abbrev pub production_core : NumberedProduction → Production
production_core p = record { rule = p.rule; symbols = p.symbols }

abbrev pub core : Numbered → Grammar
core g = record { rules = length g.rules; tokens = length g.tokens; productions = map production_core g.productions }

-- The names of the added rules: of rule 0; in an Eco file with implicit tokens also of the rule for these, and of the rule that puts them
-- before everything else. A file can't use these names.
abbrev pub start_name : List ℕ
start_name = codes "^"

abbrev pub implicit_name : List ℕ
implicit_name = codes "~"

abbrev pub implicit_start_name : List ℕ
implicit_start_name = codes "^~"

-- the names of a file's implicit tokens, if it has lists of them; only an Eco file does
abbrev pub implicit_of : YaccKind → Syntax → Option (List (List ℕ))
implicit_of Eco s = option_map (map entry_name) s.tables.implicit_tokens
implicit_of _ s = None

-- how many rules come before those of the file
abbrev pub rules_before : Option (List (List ℕ)) → ℕ
rules_before None = 1
rules_before (Some names) = 3

-- What a file says of a token: its precedence; its printed form, or else its name; and whether it is in `%avoid_insert`.
abbrev pub precedence_of_token : Syntax → List ℕ → Option Precedence
precedence_of_token s name = option_map (λ said. said.0) (lookup (bytes_eq name) s.tables.precedences)

abbrev pub printed_form : Syntax → List ℕ → List ℕ
printed_form s name = option_map_or (λ said. said.1.0) (lookup (bytes_eq name) s.tables.printed_forms) name

abbrev pub avoids_insert : Syntax → List ℕ → Bool
avoids_insert s name = option_map_or (λ table. has_entry name table) s.tables.avoid_insert false

-- A production has the precedence of the token after its `%prec`, or else of its last token (POSIX yacc).
abbrev pub token_in : file.Symbol → Option (List ℕ)
token_in (RuleSymbol word) = None
token_in (TokenSymbol word) = Some word.name

abbrev pub last_token : List file.Symbol → Option (List ℕ)
last_token symbols = last_of (filter_map token_in symbols)

abbrev pub precedence_of : Syntax → file.Production → Option Precedence
precedence_of s production = option_and_then (precedence_of_token s) (option_or production.precedence (last_token production.symbols))

abbrev pub token_index : Syntax → List ℕ → ℕ
token_index s name = index_of name s.tokens

abbrev pub added_rule : List ℕ → List ℕ → NumberedRule
added_rule name productions = record { name = name; span = nowhere; productions = productions; action_type = None }

abbrev pub added_production : ℕ → List Sym → NumberedProduction
added_production rule symbols = record { rule = rule; symbols = symbols; span = nowhere; precedence = None; action = None; action_span = None }

abbrev pub file_rule : List ℕ × file.Rule → NumberedRule
file_rule rule = record { name = rule.0; span = rule.1.name.span; productions = rule.1.productions; action_type = rule.1.action_type }

-- `implicit` is the names of the implicit tokens, if there are any
module _ (implicit : Option (List (List ℕ))) where
  -- A rule's index is its index in the file plus the number of rules before. A token's is its index in the file.
  abbrev pub rule_index : Syntax → List ℕ → ℕ
  rule_index s name = rules_before implicit + position_or_len (λ rule. bytes_eq name rule.0) s.rules

  abbrev pub file_symbol : Syntax → file.Symbol → Sym
  file_symbol s (RuleSymbol word) = Rule (rule_index s word.name)
  file_symbol s (TokenSymbol word) = Token (token_index s word.name)

  -- The symbols of a production of the file. If there are implicit tokens, the rule for these follows each token.
  abbrev pub spaced : Sym → List Sym
  spaced (Rule r) = Rule r ∷ []
  spaced (Token t) = Token t ∷ option_to_list (option_map (λ names. Rule 1) implicit)

  abbrev pub file_symbols : Syntax → List file.Symbol → List Sym
  file_symbols s symbols = flat_map (λ symbol. spaced (file_symbol s symbol)) symbols

  -- a production of the file, with the index of its rule
  abbrev pub file_production : Syntax → ℕ × file.Production → NumberedProduction
  file_production s production = record {
    rule = rules_before implicit + production.0;
    symbols = file_symbols s production.1.symbols;
    span = production.1.span;
    precedence = precedence_of s production.1;
    action = option_map (λ action. action.0) production.1.action;
    action_span = option_map (λ action. action.1) production.1.action;
  }

  -- the rule that the file starts from
  abbrev pub start_symbols : Syntax → List Sym
  start_symbols s = option_to_list (option_map (λ word. Rule (rule_index s word.name)) s.start)

-- The rules before those of the file. Their productions come after the n productions of the file.
abbrev pub added_rules : Option (List (List ℕ)) → ℕ → List NumberedRule
added_rules None n = added_rule start_name (n ∷ []) ∷ []
added_rules (Some names) n =
    added_rule start_name (n ∷ [])
    ∷ added_rule implicit_name (range_with_len (n + 1) (length names + 1))
    ∷ added_rule implicit_start_name ((n + length names + 2) ∷ [])
    ∷ []

-- The productions after those of the file: that of rule 0, which derives the rule that the file starts from. In a file with implicit
-- tokens, it derives it through rule 2, which puts rule 1 before it; rule 1 derives each list of implicit tokens.
abbrev pub added_productions : Option (List (List ℕ)) → Syntax → List NumberedProduction
added_productions None s = added_production 0 (start_symbols None s) ∷ []
added_productions (Some names) s =
    added_production 0 (Rule 2 ∷ [])
    ∷ (map (λ name. added_production 1 (Token (token_index s name) ∷ Rule 1 ∷ [])) names
    ++ (added_production 1 []
    ∷ added_production 2 (Rule 1 ∷ start_symbols (Some names) s)
    ∷ []))

abbrev pub file_token : Syntax → List ℕ × Span → NumberedToken
file_token s token = record {
  name = Some token.0;
  span = Some token.1;
  precedence = precedence_of_token s token.0;
  printed = Some (printed_form s token.0);
  avoid_insert = avoids_insert s token.0;
}

abbrev pub end_token : NumberedToken
end_token = record { name = None; span = None; precedence = None; printed = None; avoid_insert = false }

-- The grammar of a file's syntax: the added rules and the file's; the file's productions and the added ones; the file's tokens
-- and the end token.
unfoldable pub numbered_by : Option (List (List ℕ)) → Syntax → Numbered
numbered_by implicit s = record {
  rules = added_rules implicit (length s.productions) ++ map file_rule s.rules;
  tokens = map (file_token s) (zip s.tokens s.spans) ++ end_token ∷ [];
  productions = map (file_production implicit s) (zip s.production_rules s.productions) ++ added_productions implicit s;
  start_production = length s.productions;
  implicit_rule = option_map (λ names. 1) implicit;
  settings = s.settings;
}

unfoldable pub numbered : YaccKind → Syntax → Numbered
numbered kind s = numbered_by (implicit_of kind s) s
