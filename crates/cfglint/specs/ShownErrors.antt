-- The errors of a text that are shown.
use Rattle.std.specs.Prelude.{ℕ, Bool, true, false, not, if◌then◌else◌, List, [], ◌∷◌, ◌++◌, map, Option, None, Some}
use Rattle.std.specs.List.{filter, filter_map, list_any}
use Rattle.std.specs.Option.{option_and_then, option_map_or}
use Rattle.cfgrammar.specs.Building.{has_entry}
use Rattle.cfgrammar.specs.Errors.{ErrorKind, GrammarError, error_at, IncompleteRule, DuplicatePrecedence, DuplicateAvoidInsertDeclaration, DuplicateImplicitTokensDeclaration, DuplicateExpectDeclaration, DuplicateExpectRRDeclaration, DuplicateStartDeclaration, DuplicateActiontypeDeclaration, DuplicateEPP, StorageTooSmall, NoStartRule, InvalidStartRule, UnknownRuleRef, UnknownToken, NoPrecForToken, UnknownEPP}
use Rattle.cfgrammar.specs.EveryError.{every_error}
use Rattle.cfgrammar.specs.Span.{Span}
use Rattle.cfgrammar.specs.Syntax.{Production, Syntax}
use Rattle.cfglint.specs.OpenRule.{cut_rule}

-- Whether an error of this kind is one of validation, of what was read; and whether it stopped the reading.
abbrev pub is_of_validation : ErrorKind → Bool
is_of_validation NoStartRule = true
is_of_validation (InvalidStartRule name) = true
is_of_validation (UnknownRuleRef name) = true
is_of_validation (UnknownToken name) = true
is_of_validation (NoPrecForToken name) = true
is_of_validation (UnknownEPP name) = true
is_of_validation _ = false

abbrev pub stops_reading : ErrorKind → Bool
stops_reading DuplicatePrecedence = false
stops_reading DuplicateAvoidInsertDeclaration = false
stops_reading DuplicateImplicitTokensDeclaration = false
stops_reading DuplicateExpectDeclaration = false
stops_reading DuplicateExpectRRDeclaration = false
stops_reading DuplicateStartDeclaration = false
stops_reading DuplicateActiontypeDeclaration = false
stops_reading DuplicateEPP = false
stops_reading StorageTooSmall = false
stops_reading NoStartRule = false
stops_reading (InvalidStartRule name) = false
stops_reading (UnknownRuleRef name) = false
stops_reading (UnknownToken name) = false
stops_reading (NoPrecForToken name) = false
stops_reading (UnknownEPP name) = false
stops_reading _ = true

abbrev pub is_stopped : List GrammarError → Bool
is_stopped all = list_any (λ (error : GrammarError). stops_reading error.kind) all

-- whether an error of this kind is that of a `%prec`
abbrev pub is_of_precedence : ErrorKind → Bool
is_of_precedence (NoPrecForToken name) = true
is_of_precedence _ = false

-- The error of a production whose `%prec` names a token without a precedence, at the production: a syntax keeps no place of that name.
abbrev pub precedence_error : Syntax → Production → Option GrammarError
precedence_error syntax production =
    option_and_then (λ name. if has_entry name syntax.tables.precedences then None else Some (error_at (NoPrecForToken name) production.span))
    production.precedence

-- every check of validation that a syntax fails, as it is shown: those of `%prec`s come last
abbrev pub every_check : Syntax → List GrammarError
every_check syntax = filter (λ (error : GrammarError). not (is_of_precedence error.kind)) (every_error syntax)
    ++ filter_map (precedence_error syntax) syntax.productions

-- The checks of validation that what was read fails; none where an error stopped the reading, since what was not read may mend them.
abbrev pub failed_checks : Option Syntax → List GrammarError → List GrammarError
failed_checks syntax all = if is_stopped all then [] else option_map_or every_check syntax []

-- the error at these spans that the end of the text cuts the rule of this name
abbrev pub cut_error : List Span → Span → GrammarError
cut_error spans name = record { kind = IncompleteRule; spans = spans ++ name ∷ [] }

-- an error, with the name of the rule that it is about, if the end of the text cuts one and it is known which
abbrev pub placed : List ℕ → Option Syntax → GrammarError → GrammarError
placed text syntax error = option_map_or (cut_error error.spans) (cut_rule text syntax error.kind) error

-- the errors that are shown: those that aren't of validation, and then every check that fails
abbrev pub shown_errors : List ℕ → Option Syntax → List GrammarError → List GrammarError
shown_errors text syntax all =
    map (placed text syntax) (filter (λ (error : GrammarError). not (is_of_validation error.kind)) all) ++ failed_checks syntax all
