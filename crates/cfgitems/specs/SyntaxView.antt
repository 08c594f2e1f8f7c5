-- What the types of a syntax show, as plain data.
use Rattle.std.specs.Prelude.{◌≡◌, ℕ, List, String, None, map, option_map}
use Rattle.std.specs.String.{string_bytes}
use Rattle.std.specs.declared.alloc.Global.{Global}
use Rattle.cfgbase.specs.declared.span.Span.{Span}
use Rattle.cfgwords.specs.FileWords.{Word, Token}
use Rattle.cfgitems.specs.Syntax as plain
use Rattle.cfgitems.specs.Syntax.{Syntax, RuleSymbol, TokenSymbol}
use Rattle.cfgitems.specs.Occurrences as once
use Rattle.cfgitems.specs.declared.occurrence.Unique.{Unique}
use Rattle.cfgitems.specs.declared.occurrence.Occurrence.{Occurrence}
use Rattle.cfgitems.specs.declared.symbol.Symbol.{Symbol}
use Rattle.cfgitems.specs.declared.symbol.Symbol.TheVariants as symbols
use Rattle.cfgitems.specs.declared.production.Production.{Production}
use Rattle.cfgitems.specs.declared.rule.Rule.{Rule}
use Rattle.cfgitems.specs.declared.settings.Settings.{Settings}
use Rattle.cfgitems.specs.declared.tables.Tables.{Tables}
use Rattle.cfgitems.specs.declared.precedence.Precedence.{Precedence}
use Rattle.cfgitems.specs.declared.syntax.Syntax.{Syntax as CodeSyntax}
use Rattle.cfgitems.specs.Items as items
use Rattle.cfgitems.specs.declared.builder.AstBuilder.{AstBuilder}
use Rattle.cfgitems.specs.declared.item.RuleHead.{RuleHead}
use Rattle.cfgitems.specs.declared.item.Body.{Body}
use Rattle.cfgwords.specs.declared.words.Word.{Word as CodeWord}
use Rattle.cfgwords.specs.declared.words.Token.{Token as CodeToken}

-- a name and its span
abbrev pub named_view : String Global × Span → Word
named_view named = record { name = string_bytes named.0; span = named.1 }

-- a text and its span
abbrev pub text_view : String Global × Span → List ℕ × Span
text_view text = (string_bytes text.0, text.1)

abbrev pub symbol_view : Symbol → plain.Symbol
symbol_view (symbols.Rule name span) = RuleSymbol (named_view (name, span))
symbol_view (symbols.Token name span) = TokenSymbol (named_view (name, span))

abbrev pub production_view : Production → plain.Production
production_view production = record {
  symbols = map symbol_view production.symbols.items;
  precedence = option_map string_bytes production.precedence;
  action = option_map text_view production.action;
  span = production.prod_span;
}

abbrev pub rule_view : Rule → plain.Rule
rule_view rule = record {
  name = named_view rule.name;
  productions = rule.pidxs.items;
  action_type = option_map string_bytes rule.actiont;
}

-- a rule under its name
abbrev pub rule_entry : String Global × Rule → List ℕ × plain.Rule
rule_entry entry = (string_bytes entry.0, rule_view entry.1)

abbrev pub pair_view : String Global × String Global → List ℕ × List ℕ
pair_view pair = (string_bytes pair.0, string_bytes pair.1)

abbrev pub settings_view : Settings → plain.Settings
settings_view settings = record {
  action_type = option_map string_bytes settings.action_type;
  expect = settings.expect;
  expect_reduce_reduce = settings.expectrr;
  parse_param = option_map pair_view settings.parse_param;
  parse_generics = option_map string_bytes settings.parse_generics;
  programs = option_map string_bytes settings.programs;
}

-- no setting is a text
abbrev pub HasNoText : Settings → Type 0
HasNoText settings =
    (settings.action_type ≡ None) × (settings.parse_param ≡ None) × (settings.parse_generics ≡ None) × (settings.programs ≡ None)

-- what is said about a token, under its name
abbrev pub precedence_entry : String Global × (Precedence × Span) → List ℕ × (Precedence × Span)
precedence_entry entry = (string_bytes entry.0, entry.1)

abbrev pub printed_entry : String Global × (Span × (String Global × Span)) → List ℕ × (Span × (List ℕ × Span))
printed_entry entry = (string_bytes entry.0, (entry.1.0, text_view entry.1.1))

abbrev pub span_entry : String Global × Span → List ℕ × Span
span_entry entry = (string_bytes entry.0, entry.1)

abbrev pub tables_view : Tables → plain.Tables
tables_view tables = record {
  precedences = map precedence_entry tables.precs.entries;
  printed_forms = map printed_entry tables.epp.entries;
  avoid_insert = option_map (λ table. map span_entry table.entries) tables.avoid_insert;
  implicit_tokens = option_map (λ table. map span_entry table.entries) tables.implicit_tokens;
  levels = tables.levels.items;
}

abbrev pub unique_view : Unique → once.Unique
unique_view unique = record { kind = unique.kind; token = option_map string_bytes unique.token }

abbrev pub occurrence_view : Occurrence → once.Occurrence
occurrence_view occurrence = record { what = unique_view occurrence.what; span = occurrence.span }

unfoldable pub syntax_view : CodeSyntax → Syntax
syntax_view syntax = record {
  start = option_map named_view syntax.start;
  rules = map rule_entry syntax.rules.entries;
  productions = map production_view syntax.prods.items;
  production_rules = syntax.prods_rules.items;
  tokens = map string_bytes syntax.tokens.keys;
  spans = syntax.spans.items;
  token_directives = syntax.token_directives.keys;
  tables = tables_view syntax.tables;
  settings = settings_view syntax.settings;
  expect_unused = map symbol_view syntax.expect_unused.items;
  repeated_tokens = map named_view syntax.repeated_tokens.items;
  overridden_precedences = map named_view syntax.overridden_precedences.items;
  occurrences = map occurrence_view syntax.occurrences.items;
}

-- what was built so far
unfoldable pub syntax_built : AstBuilder → Syntax
syntax_built builder = syntax_view builder.syntax

-- a token of a rule's body
abbrev pub token_view : CodeToken → Token
token_view token = record { name = token.name.now; span = token.span; quoted = token.quoted; end = token.end }

-- a name in the text
abbrev pub word_view : CodeWord → Word
word_view word = record { name = word.name.now; span = word.span }

abbrev pub head_view : RuleHead → items.RuleHead
head_view head = record { name = word_view head.name; action_type = option_map (λ text. text.now) head.action_type }

abbrev pub body_view : Body → items.Body
body_view body = record {
  symbols = map token_view body.symbols.now;
  precedences = map token_view body.precedences.now;
  action = option_map (λ action. (action.0.now, action.1)) body.action;
  span = body.span;
}
