-- Every check of validation that a syntax fails, as its error, in the order of `Check`.
use Rattle.std.specs.Prelude.{ℕ, List, [], ◌++◌, slice_get}
use Rattle.std.specs.List.{filter_map, flat_map}
use Rattle.std.specs.Option.{option_map_or, option_to_list}
use Rattle.cfgitems.specs.Syntax.{Syntax, Rule, Production}
use Rattle.cfgast.specs.Check.{precedence_error, printed_error, start_error, symbol_error}
use Rattle.cfgerrors.specs.Errors.{GrammarError}

abbrev pub production_errors : Syntax → Production → List GrammarError
production_errors syntax production =
    option_to_list (precedence_error syntax production.precedence) ++ filter_map (symbol_error syntax) production.symbols

-- of the production at an index of the list of all
abbrev pub located_errors : Syntax → ℕ → List GrammarError
located_errors syntax index = option_map_or (production_errors syntax) (slice_get syntax.productions index) []

abbrev pub rule_errors : Syntax → List ℕ × Rule → List GrammarError
rule_errors syntax rule = flat_map (located_errors syntax) rule.1.productions

unfoldable pub every_error : Syntax → List GrammarError
every_error syntax = option_to_list (start_error syntax syntax.start)
    ++ (flat_map (rule_errors syntax) syntax.rules
    ++ (filter_map (printed_error syntax) syntax.tables.printed_forms ++ filter_map (symbol_error syntax) syntax.expect_unused))
