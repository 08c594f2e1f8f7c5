-- The errors of a text: what it declares more than once, what stopped its reading, and then the first check that what was read fails.
use Rattle.std.specs.Prelude.{List, [], ◌∷◌, ◌++◌, map, Option, Some, None}
use Rattle.std.specs.Option.{option_to_list}
use Rattle.cfgitems.specs.Items.{Item}
use Rattle.cfgast.specs.Duplicates.{Duplicate, duplicates}
use Rattle.cfgitems.specs.Syntax.{Syntax, syntax_of}
use Rattle.cfgerrors.specs.Errors.{GrammarError, header_error}
use Rattle.cfgfaults.specs.FaultErrors.{error_of, repeated_kind}
use Rattle.cfgast.specs.Check.{check_of}
use Rattle.cfgsyntax.specs.Reads.{Stop, InSection, InFile}

-- the errors for what stopped a reading
abbrev pub stop_errors : Option Stop → List GrammarError
stop_errors None = []
stop_errors (Some (InSection errors)) = map header_error errors
stop_errors (Some (InFile fault)) = error_of fault ∷ []

-- the error for what is declared more than once, at all its spans
abbrev pub duplicate_error : Duplicate → GrammarError
duplicate_error duplicate = record { kind = repeated_kind duplicate.what.kind; spans = duplicate.spans }

-- the errors of what was read as a syntax, up to stop
abbrev pub all_errors : Syntax → Option Stop → List GrammarError
all_errors syntax stop =
    map duplicate_error (duplicates syntax.occurrences) ++ (stop_errors stop ++ option_to_list (check_of syntax))

-- the errors of a text that reads as these items, up to stop
abbrev pub errors_of : List Item → Option Stop → List GrammarError
errors_of items stop = all_errors (syntax_of items) stop
