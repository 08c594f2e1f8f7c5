-- Adding items one by one gives what the list of them says.
use Rattle.std.proofs.Common.{◌≡◌, ℕ, ◌==◌, Bool, true, false, cond, ◌∷◌, ◌++◌, [], List, filter_map, position, Option, Some, None, refl, sym, ap, ◌∙◌, true≢false}
use Rattle.std.specs.List.{list_any}
use Rattle.std.specs.Option.{option_map_or}
use Rattle.std.specs.Str.{bytes_eq}
use Rattle.std.proofs.lemmas.Bool.{false_from_ne_true}
use Rattle.std.proofs.lemmas.List.Sums.{fold_push}
use Rattle.lemmas.proofs.Growing.{from_pushes}
use Rattle.lemmas.proofs.Positions.{found-position}
use Rattle.lemmas.proofs.Pushed.{filter_map-pushed}
use Rattle.cfgitems.specs.Items.{Item}
use Rattle.cfgitems.specs.Occurrences.{declared_once}
use Rattle.cfgitems.specs.Syntax.{word_name, is_named, token_declared, start_named, declared_words, index_of, indices_of, finished, action_type_declared, printed_form_declared, expected, expected_reduce_reduce, expected_unused, parse_param_declared, generics_declared, avoid_insert_said, implicit_tokens_said, precedence_at, level_ended, programs_given, settings_of, tables_of, syntax_of}
use Rattle.cfgitems.specs.Building.{has_name, is_declared, grown, add, adds}
use Rattle.cfgitems.proofs.Names.{is_named-firsts, has_name-names, noted}
use Rattle.cfgitems.proofs.Fields.{tokens, declared, declared_token, first-push, last-push, entries-push, entries_after-push, marked-push, rules-push, productions-push, production_rules-push, tokens-push, spans-push, directives-push, repeated_tokens-push, overridden-push}

-- a name is declared so far if a `%token` list has it
is_declared-syntax_of : (items : List Item) (name : List ℕ) → is_named word_name name (filter_map token_declared items) ≡ is_declared (syntax_of items) name
unfolding is_declared syntax_of declared_words
is_declared-syntax_of items name =
    sym (is_named-firsts word_name name (filter_map token_declared items)) ∙ sym (has_name-names word_name name (declared_words items)) ∙ sym (go (has_name name (tokens items)) refl)
  where
    at : Option ℕ → Bool
    at o = option_map_or (λ i. list_any (λ j. i == j) (indices_of (declared items) (tokens items))) o false

    index : ℕ
    index = index_of name (tokens items)

    found : (b : Bool) → has_name name (tokens items) ≡ b → position (bytes_eq name) (tokens items) ≡ cond b (Some index) None
    found b e = ap (λ t. cond t (Some index) None) (found-position (bytes_eq name) (tokens items) ∙ e)

    go : (b : Bool) → has_name name (tokens items) ≡ b → at (position (bytes_eq name) (tokens items)) ≡ has_name name (declared items)
    go true e = ap at (found true e) ∙ noted (declared items) (tokens items) (declared_token items) name e
    go false e = ap at (found false e) ∙ sym (false_from_ne_true _ (λ h. true≢false (sym (declared_token items name h) ∙ e)))

-- one more item adds to the syntax what `add` does
pub syntax_of-push : (items : List Item) (item : Item) → syntax_of (items ++ item ∷ []) ≡ add (syntax_of items) item
unfolding add syntax_of settings_of tables_of
syntax_of-push items item = (λ i. record {
  start = first-push items item start_named i;
  rules = rules-push items item i;
  productions = productions-push items item i;
  production_rules = production_rules-push items item i;
  tokens = tokens-push items item i;
  spans = spans-push items item i;
  token_directives = directives-push items item i;
  tables = record {
    precedences = entries_after-push items item precedence_at i;
    printed_forms = entries-push items item printed_form_declared i;
    avoid_insert = marked-push items item avoid_insert_said i;
    implicit_tokens = marked-push items item implicit_tokens_said i;
    levels = filter_map-pushed level_ended items item i;
  };
  settings = record {
    action_type = first-push items item action_type_declared i;
    expect = first-push items item expected i;
    expect_reduce_reduce = first-push items item expected_reduce_reduce i;
    parse_param = last-push items item parse_param_declared i;
    parse_generics = last-push items item generics_declared i;
    programs = last-push items item programs_given i;
  };
  expect_unused = filter_map-pushed expected_unused items item i;
  repeated_tokens = repeated_tokens-push items item i;
  overridden_precedences = overridden-push items item i;
  occurrences = filter_map-pushed declared_once items item i;
}) ∙ ap (grown (syntax_of items) item) (λ i. finished (λ name. is_declared-syntax_of items name i) item)

-- all items, added one by one, say what their list says
pub adds_syntax_of : (items : List Item) → adds (syntax_of []) items ≡ syntax_of items
unfolding adds
adds_syntax_of = from_pushes (λ items. adds (syntax_of []) items ≡ syntax_of items) refl (λ items item before.
    fold_push add (syntax_of []) items item ∙ ap (λ s. add s item) before ∙ sym (syntax_of-push items item))
