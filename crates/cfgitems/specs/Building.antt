-- The same syntax, item by item: what one more item makes of each field. Fields that an item says nothing about stay unchanged.
use Rattle.std.specs.Prelude.{ℕ, Bool, false, List, [], ◌∷◌, ◌++◌, map, fold, length, position, ◌==◌, Option, Some, None, option_map, if◌then◌else◌}
use Rattle.std.specs.List.{list_any}
use Rattle.std.specs.Option.{option_map_or, option_or}
use Rattle.std.specs.Str.{bytes_eq}
use Rattle.lemmas.specs.Lists.{pushed, pushed_unless}
use Rattle.cfgbase.specs.declared.span.Span.{Span}
use Rattle.cfgwords.specs.FileWords.{Word}
use Rattle.cfgitems.specs.Items.{Item, RuleHead, Alternative}
use Rattle.cfgitems.specs.Occurrences.{declared_once}
use Rattle.cfgitems.specs.Syntax.{Syntax, Settings, Tables, Rule, Production, word_name, head_name, index_of, token_named, token_declared, start_named, action_type_declared, printed_form_declared, expected, expected_reduce_reduce, expected_unused, parse_param_declared, generics_declared, avoid_insert_said, implicit_tokens_said, precedence_declared, level_ended, programs_given, rule_named, typed, word_entry, finished, declared_again, overridden}

-- whether a name is among names
abbrev pub has_name : List ℕ → List (List ℕ) → Bool
has_name name names = list_any (bytes_eq name) names

-- what is named first, if nothing is named yet
abbrev pub with_first : {A : Type 0} → Option A → Option A → Option A
with_first None first = first
with_first (Some x) first = option_or first (Some x)

-- a name, if it isn't among the names yet
abbrev pub with_name : Option (List ℕ) → List (List ℕ) → List (List ℕ)
with_name None names = names
with_name (Some name) names = pushed_unless (has_name name names) names name

-- the span of a token, if none has its name yet
abbrev pub with_span : Option Word → List (List ℕ) → List Span → List Span
with_span None tokens spans = spans
with_span (Some word) tokens spans = pushed_unless (has_name word.name tokens) spans word.span

-- whether the index of a name among the tokens is noted
abbrev pub is_noted : List (List ℕ) → List ℕ → List ℕ → Bool
is_noted tokens directives name = list_any (λ j. index_of name tokens == j) directives

-- the index of a declared name among the tokens, if it isn't noted yet
abbrev pub with_directive : Option (List ℕ) → List (List ℕ) → List ℕ → List ℕ
with_directive None tokens directives = directives
with_directive (Some name) tokens directives = pushed_unless (is_noted tokens directives name) directives (index_of name tokens)

abbrev pub has_rule : List ℕ → List (List ℕ × Rule) → Bool
has_rule name rules = list_any (λ rule. bytes_eq name rule.0) rules

-- a rule with no production, under its name
abbrev pub new_rule : RuleHead → List ℕ × Rule
new_rule head = (head_name head, record { name = head.name; productions = []; action_type = head.action_type })

-- a rule, if none has its name yet
abbrev pub with_rule : Option RuleHead → List (List ℕ × Rule) → List (List ℕ × Rule)
with_rule None rules = rules
with_rule (Some head) rules = pushed_unless (has_rule (head_name head) rules) rules (new_rule head)

-- the rule, with the production of this index too if the rule has the name
abbrev pub listed : List ℕ → ℕ → List ℕ × Rule → List ℕ × Rule
listed name i rule = if bytes_eq name rule.0 then (rule.0, record rule.1 { productions = rule.1.productions ++ i ∷ [] }) else rule

-- the production of this index, listed with the rule of its name
abbrev pub with_listed : Option (List ℕ × Production) → ℕ → List (List ℕ × Rule) → List (List ℕ × Rule)
with_listed None i rules = rules
with_listed (Some production) i rules = map (listed production.0 i) rules

-- whether a `%token` list has the name
unfoldable pub is_declared : Syntax → List ℕ → Bool
is_declared s name = option_map_or (λ i. list_any (λ j. i == j) s.token_directives) (position (bytes_eq name) s.tokens) false

-- an entry, if none has its name yet
abbrev pub has_entry : {A : Type 0} → List ℕ → List (List ℕ × A) → Bool
has_entry name entries = list_any (λ entry. bytes_eq name entry.0) entries

abbrev pub with_entry : {A : Type 0} → Option (List ℕ × A) → List (List ℕ × A) → List (List ℕ × A)
with_entry None entries = entries
with_entry (Some entry) entries = pushed_unless (has_entry entry.0 entries) entries entry

-- the table of marked tokens, which exists from the first list on
abbrev pub with_marked : Option (Option Word) → Option (List (List ℕ × Span)) → Option (List (List ℕ × Span))
with_marked None table = table
with_marked (Some said) None = Some (with_entry (option_map word_entry said) [])
with_marked (Some said) (Some entries) = Some (with_entry (option_map word_entry said) entries)

-- the tokens of `%prec`s that a later one overrides, with those of a finished production
abbrev pub with_overridden : Item → List Word → List Word
with_overridden (Alternative head body) words = words ++ overridden (Alternative head body)
with_overridden _ words = words

abbrev pub with_settings : Item → Settings → Settings
with_settings item settings = record {
  action_type = with_first (action_type_declared item) settings.action_type;
  expect = with_first (expected item) settings.expect;
  expect_reduce_reduce = with_first (expected_reduce_reduce item) settings.expect_reduce_reduce;
  parse_param = option_or (parse_param_declared item) settings.parse_param;
  parse_generics = option_or (generics_declared item) settings.parse_generics;
  programs = option_or (programs_given item) settings.programs;
}

abbrev pub with_tables : Item → Tables → Tables
with_tables item tables = record {
  precedences = with_entry (precedence_declared (length tables.levels) item) tables.precedences;
  printed_forms = with_entry (printed_form_declared item) tables.printed_forms;
  avoid_insert = with_marked (avoid_insert_said item) tables.avoid_insert;
  implicit_tokens = with_marked (implicit_tokens_said item) tables.implicit_tokens;
  levels = pushed tables.levels (level_ended item);
}

-- the syntax with what the item names, and with the production that it finishes
abbrev pub grown : Syntax → Item → Option (List ℕ × Production) → Syntax
grown s item production =
    let rules = with_rule (option_map (typed s.settings.action_type) (rule_named item)) s.rules in
    let tokens = with_name (option_map word_name (token_named item)) s.tokens in
    record {
      start = with_first (start_named item) s.start;
      rules = with_listed production (length s.productions) rules;
      productions = pushed s.productions (option_map (λ p. p.1) production);
      production_rules = pushed s.production_rules (option_map (λ p. index_of p.0 (map (λ rule. rule.0) rules)) production);
      tokens = tokens;
      spans = with_span (token_named item) s.tokens s.spans;
      token_directives = with_directive (option_map word_name (token_declared item)) tokens s.token_directives;
      tables = with_tables item s.tables;
      settings = with_settings item s.settings;
      expect_unused = pushed s.expect_unused (expected_unused item);
      repeated_tokens = pushed s.repeated_tokens (declared_again (is_noted tokens s.token_directives) item);
      overridden_precedences = with_overridden item s.overridden_precedences;
      occurrences = pushed s.occurrences (declared_once item);
    }

unfoldable pub add : Syntax → Item → Syntax
add s item = grown s item (finished (is_declared s) item)

unfoldable pub adds : Syntax → List Item → Syntax
adds s items = fold add s items
