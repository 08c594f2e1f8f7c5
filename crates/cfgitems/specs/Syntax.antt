-- What a list of items says: rules, tokens and productions, by first occurrences in the list.
use Rattle.std.specs.Prelude.{ℕ, ◌-◌, Bool, List, All, length, map, filter, take, ◌||◌, not, Option, Some, None, IfSome, option_map, slice_get, [], ◌∷◌, if◌then◌else◌}
use Rattle.std.specs.List.{list_any, filter_map, flat_map, position_or_len}
use Rattle.std.specs.Option.{option_or}
use Rattle.std.specs.Str.{bytes_eq}
use Rattle.lemmas.specs.Lists.{with_prefixes, positions}
use Rattle.cfgbase.specs.declared.span.Span.{Span}
use Rattle.cfgwords.specs.FileWords.{Word, Token, word_of}
pub use Rattle.cfgitems.specs.Items.{Symbol, RuleSymbol, TokenSymbol}
use Rattle.cfgitems.specs.Items.{Item, RuleHead, Body, TokenDeclared, StartDeclared, ActionTypeDeclared, PrintedFormDeclared, ExpectDeclared, ExpectReduceReduceDeclared, ExpectedUnused, ParseParamDeclared, GenericsDeclared, AvoidInsertBegun, AvoidInsertDeclared, ImplicitTokensBegun, ImplicitTokenDeclared, PrecedenceDeclared, LevelEnded, RuleBegun, RuleNamed, TokenQuoted, PrecedenceUsed, Alternative, ProgramsGiven}
use Rattle.cfgitems.specs.declared.precedence.AssocKind.{AssocKind}
use Rattle.cfgitems.specs.declared.precedence.Precedence.{Precedence}
use Rattle.cfgitems.specs.Occurrences.{Occurrence, declared_once}

pub record Production : Type 0 where
  pub symbols : List Symbol
  pub precedence : Option (List ℕ)
  pub action : Option (List ℕ × Span)
  pub span : Span

-- a rule: its first name, and its productions by their indices in the list of all productions
pub record Rule : Type 0 where
  pub name : Word
  pub productions : List ℕ
  pub action_type : Option (List ℕ)

-- what a file says about its grammar as a whole: the type that all actions return, how many conflicts it expects, the parameter and the
-- generics of its parser, and the programs
pub record Settings : Type 0 where
  pub action_type : Option (List ℕ)
  pub expect : Option (ℕ × Span)
  pub expect_reduce_reduce : Option (ℕ × Span)
  pub parse_param : Option (List ℕ × List ℕ)
  pub parse_generics : Option (List ℕ)
  pub programs : Option (List ℕ)

-- What a file says about single tokens, each under its name: its precedence and its printed form, and whether it is marked by
-- `%avoid_insert` and by `%implicit_tokens`; there is no table if there is no such list. Levels are the finished declarations of
-- precedences.
pub record Tables : Type 0 where
  pub precedences : List (List ℕ × (Precedence × Span))
  pub printed_forms : List (List ℕ × (Span × (List ℕ × Span)))
  pub avoid_insert : Option (List (List ℕ × Span))
  pub implicit_tokens : Option (List (List ℕ × Span))
  pub levels : List AssocKind

pub record Syntax : Type 0 where
  pub start : Option Word
  pub rules : List (List ℕ × Rule)
  pub productions : List Production
  pub production_rules : List ℕ  -- the rule of each production, by its index in the list of rules
  pub tokens : List (List ℕ)
  pub spans : List Span
  pub token_directives : List ℕ
  pub tables : Tables
  pub settings : Settings
  pub expect_unused : List Symbol
  pub repeated_tokens : List Word  -- the tokens of `%token` lists that such lists have before
  pub overridden_precedences : List Word  -- the tokens of `%prec`s that a later `%prec` of their production overrides
  pub occurrences : List Occurrence  -- of what may be declared only once

-- the name of a symbol, and its span
abbrev pub symbol_word : Symbol → Word
symbol_word (RuleSymbol word) = word
symbol_word (TokenSymbol word) = word

-- What holds of each span of a production, of the settings, of the tables, and of a syntax. Q is for the spans of actions.
pub record EachProductionSpan (P Q : Span → Type 0) (production : Production) : Type 0 where
  pub itself : P production.span
  pub symbols : All (λ symbol. P (symbol_word symbol).span) production.symbols
  pub action : IfSome production.action (λ action. Q action.1)

pub record EachSettingSpan (P : Span → Type 0) (settings : Settings) : Type 0 where
  pub expect : IfSome settings.expect (λ expect. P expect.1)
  pub expect_reduce_reduce : IfSome settings.expect_reduce_reduce (λ expect. P expect.1)

pub record EachTableSpan (P : Span → Type 0) (tables : Tables) : Type 0 where
  pub precedences : All (λ entry. P entry.1.1) tables.precedences
  pub printed_keys : All (λ entry. P entry.1.0) tables.printed_forms
  pub printed_forms : All (λ entry. P entry.1.1.1) tables.printed_forms
  pub avoid_insert : IfSome tables.avoid_insert (λ table. All (λ entry. P entry.1) table)
  pub implicit_tokens : IfSome tables.implicit_tokens (λ table. All (λ entry. P entry.1) table)

pub record EachSpan (P Q : Span → Type 0) (syntax : Syntax) : Type 0 where
  pub start : IfSome syntax.start (λ word. P word.span)
  pub rules : All (λ rule. P rule.1.name.span) syntax.rules
  pub productions : All (EachProductionSpan P Q) syntax.productions
  pub tokens : All P syntax.spans
  pub tables : EachTableSpan P syntax.tables
  pub settings : EachSettingSpan P syntax.settings
  pub expect_unused : All (λ symbol. P (symbol_word symbol).span) syntax.expect_unused
  pub repeated_tokens : All (λ word. P word.span) syntax.repeated_tokens
  pub overridden_precedences : All (λ word. P word.span) syntax.overridden_precedences
  pub occurrences : All (λ occurrence. P occurrence.span) syntax.occurrences

abbrev pub word_name : Word → List ℕ
word_name word = word.name

abbrev pub head_name : RuleHead → List ℕ
head_name head = head.name.name

abbrev pub is_named : {A : Type 0} → (A → List ℕ) → List ℕ → List A → Bool
is_named name_of name xs = list_any (λ x. bytes_eq name (name_of x)) xs

-- each element once, at its first occurrence; and so for each name
abbrev pub each_once : {A : Type 0} → (A → A → Bool) → List A → List A
each_once same xs = map (λ x. x.1) (filter (λ x. not (list_any (same x.1) x.0)) (with_prefixes xs))

unfoldable pub firsts : {A : Type 0} → (A → List ℕ) → List A → List A
firsts name_of xs = each_once (λ x y. bytes_eq (name_of x) (name_of y)) xs

-- the index of a name among names, and the indices of several
abbrev pub index_of : List ℕ → List (List ℕ) → ℕ
index_of name names = position_or_len (bytes_eq name) names

abbrev pub indices_of : List (List ℕ) → List (List ℕ) → List ℕ
indices_of some names = map (λ name. index_of name names) some

-- the last of a list, and all before it
abbrev pub last_of : {A : Type 0} → List A → Option A
last_of xs = slice_get xs (length xs - 1)

abbrev pub without_last : {A : Type 0} → List A → List A
without_last xs = take (length xs - 1) xs

-- What an item says: the words by which it names a token, a declared token and the start; the type that all actions return; a token's
-- printed form; the numbers of conflicts that it expects; the symbol that it expects to be unused; what it says about the parser; what it
-- says about a list of marked tokens (that one starts, or its token); a token's precedence at a level; the level that it ends; the rule
-- that it names; and the programs.

abbrev pub token_named : Item → Option Word
token_named (TokenDeclared word) = Some word
token_named (AvoidInsertDeclared word) = Some word
token_named (ImplicitTokenDeclared word) = Some word
token_named (TokenQuoted word) = Some word
token_named (PrecedenceUsed word) = Some word
token_named _ = None

abbrev pub token_declared : Item → Option Word
token_declared (TokenDeclared word) = Some word
token_declared _ = None

abbrev pub start_named : Item → Option Word
start_named (StartDeclared word) = Some word
start_named (RuleBegun word) = Some word
start_named _ = None

abbrev pub action_type_declared : Item → Option (List ℕ)
action_type_declared (ActionTypeDeclared text) = Some text.0
action_type_declared _ = None

abbrev pub printed_form_declared : Item → Option (List ℕ × (Span × (List ℕ × Span)))
printed_form_declared (PrintedFormDeclared token form) = Some (token.name, (token.span, form))
printed_form_declared _ = None

abbrev pub expected : Item → Option (ℕ × Span)
expected (ExpectDeclared number) = Some number
expected _ = None

abbrev pub expected_reduce_reduce : Item → Option (ℕ × Span)
expected_reduce_reduce (ExpectReduceReduceDeclared number) = Some number
expected_reduce_reduce _ = None

abbrev pub parse_param_declared : Item → Option (List ℕ × List ℕ)
parse_param_declared (ParseParamDeclared param) = Some param
parse_param_declared _ = None

abbrev pub generics_declared : Item → Option (List ℕ)
generics_declared (GenericsDeclared text) = Some text
generics_declared _ = None

abbrev pub expected_unused : Item → Option Symbol
expected_unused (ExpectedUnused symbol) = Some symbol
expected_unused _ = None

abbrev pub avoid_insert_said : Item → Option (Option Word)
avoid_insert_said AvoidInsertBegun = Some None
avoid_insert_said (AvoidInsertDeclared word) = Some (Some word)
avoid_insert_said _ = None

abbrev pub implicit_tokens_said : Item → Option (Option Word)
implicit_tokens_said ImplicitTokensBegun = Some None
implicit_tokens_said (ImplicitTokenDeclared word) = Some (Some word)
implicit_tokens_said _ = None

abbrev pub precedence_declared : ℕ → Item → Option (List ℕ × (Precedence × Span))
precedence_declared level (PrecedenceDeclared kind word) = Some (word.name, (record { level = level; kind = kind }, word.span))
precedence_declared level _ = None

abbrev pub level_ended : Item → Option AssocKind
level_ended (LevelEnded kind) = Some kind
level_ended _ = None

abbrev pub programs_given : Item → Option (List ℕ)
programs_given (ProgramsGiven text) = Some text
programs_given _ = None

abbrev pub rule_named : Item → Option RuleHead
rule_named (RuleNamed head) = Some head
rule_named (Alternative head body) = Some head
rule_named _ = None

-- An unquoted word in a body is a token if an earlier `%token` list has its name, and otherwise a rule.
abbrev pub symbol_of : (List ℕ → Bool) → Token → Symbol
symbol_of is_declared token = if token.quoted || is_declared token.name then TokenSymbol (word_of token) else RuleSymbol (word_of token)

-- Of its `%prec`s the last counts.
abbrev pub production_of : (List ℕ → Bool) → Body → Production
production_of is_declared body = record {
  symbols = map (symbol_of is_declared) body.symbols;
  precedence = option_map (λ token. token.name) (last_of body.precedences);
  action = body.action;
  span = body.span;
}

-- the production that an item finishes, with the name of its rule
abbrev pub finished : (List ℕ → Bool) → Item → Option (List ℕ × Production)
finished is_declared (Alternative head body) = Some (head_name head, production_of is_declared body)
finished is_declared _ = None

abbrev pub alternative : List Item × Item → Option (List ℕ × Production)
alternative (prefix, item) = finished (λ name. is_named word_name name (filter_map token_declared prefix)) item

unfoldable pub alternatives : List Item → List (List ℕ × Production)
alternatives items = filter_map alternative (with_prefixes items)

-- the token of a `%token` list, if such lists have it before
abbrev pub declared_again : (List ℕ → Bool) → Item → Option Word
declared_again is_declared (TokenDeclared word) = if is_declared word.name then Some word else None
declared_again is_declared _ = None

abbrev pub repeated_token : List Item × Item → Option Word
repeated_token (prefix, item) = declared_again (λ name. is_named word_name name (filter_map token_declared prefix)) item

-- the tokens of a production's `%prec`s before its last
abbrev pub overridden : Item → List Word
overridden (Alternative head body) = map word_of (without_last body.precedences)
overridden _ = []

unfoldable pub token_words : List Item → List Word
token_words items = firsts word_name (filter_map token_named items)

unfoldable pub declared_words : List Item → List Word
declared_words items = firsts word_name (filter_map token_declared items)

-- a rule with the type that its actions return: its own, or the one for all that is given before it
abbrev pub typed : Option (List ℕ) → RuleHead → RuleHead
typed of_all head = record head { action_type = option_or head.action_type of_all }

abbrev pub typed_rule : List Item × Item → Option RuleHead
typed_rule (prefix, item) = option_map (typed (slice_get (filter_map action_type_declared prefix) 0)) (rule_named item)

unfoldable pub rule_heads : List Item → List RuleHead
rule_heads items = firsts head_name (filter_map typed_rule (with_prefixes items))

-- a token's precedence, whose level is the number of earlier precedence declarations
abbrev pub precedence_at : List Item × Item → Option (List ℕ × (Precedence × Span))
precedence_at (prefix, item) = precedence_declared (length (filter_map level_ended prefix)) item

abbrev pub entry_name : {A : Type 0} → List ℕ × A → List ℕ
entry_name entry = entry.0

abbrev pub word_entry : Word → List ℕ × Span
word_entry word = (word.name, word.span)

-- what lists of marked tokens say together: there is a table if a list starts, with each token at its first occurrence
abbrev pub marked : List (Option Word) → Option (List (List ℕ × Span))
marked [] = None
marked (said ∷ more) = Some (map word_entry (firsts word_name (filter_map (λ o. o) (said ∷ more))))

abbrev pub rule_of : List (List ℕ × Production) → RuleHead → List ℕ × Rule
rule_of alternatives head = (
  head_name head,
  record {
    name = head.name;
    productions = positions (λ a. bytes_eq (head_name head) a.0) alternatives;
    action_type = head.action_type;
  },
)

-- Of the types and the numbers of conflicts the first counts, of everything else the last.
unfoldable pub settings_of : List Item → Settings
settings_of items = record {
  action_type = slice_get (filter_map action_type_declared items) 0;
  expect = slice_get (filter_map expected items) 0;
  expect_reduce_reduce = slice_get (filter_map expected_reduce_reduce items) 0;
  parse_param = last_of (filter_map parse_param_declared items);
  parse_generics = last_of (filter_map generics_declared items);
  programs = last_of (filter_map programs_given items);
}

-- Of what is said about a token, the first counts.
unfoldable pub tables_of : List Item → Tables
tables_of items = record {
  precedences = firsts entry_name (filter_map precedence_at (with_prefixes items));
  printed_forms = firsts entry_name (filter_map printed_form_declared items);
  avoid_insert = marked (filter_map avoid_insert_said items);
  implicit_tokens = marked (filter_map implicit_tokens_said items);
  levels = filter_map level_ended items;
}

-- Tokens and rules are the first occurrences of their names; productions are all finished ones. The start is what a `%start` or a rule
-- names first: in a file each `%start` precedes all rules. Directives are the indices, among the tokens, of the names in `%token` lists.
unfoldable pub syntax_of : List Item → Syntax
syntax_of items = record {
  start = slice_get (filter_map start_named items) 0;
  rules = map (rule_of (alternatives items)) (rule_heads items);
  productions = map (λ a. a.1) (alternatives items);
  production_rules = indices_of (map (λ a. a.0) (alternatives items)) (map head_name (rule_heads items));
  tokens = map word_name (token_words items);
  spans = map (λ w. w.span) (token_words items);
  token_directives = indices_of (map word_name (declared_words items)) (map word_name (token_words items));
  tables = tables_of items;
  settings = settings_of items;
  expect_unused = filter_map expected_unused items;
  repeated_tokens = filter_map repeated_token (with_prefixes items);
  overridden_precedences = flat_map overridden items;
  occurrences = filter_map declared_once items;
}
