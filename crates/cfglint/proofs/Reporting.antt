-- What is reported stays the same whatever kind the report says, and each error is noted.
use Rattle.std.proofs.Common.{◌≡◌, ◌+◌, ◌++◌, ℕ, List, length, take, drop, map, Option, ◌∙◌, sym, ap}
use Rattle.std.proofs.lemmas.List.{length-append, length-map, take-append-drop}
use Rattle.cfgrammar.specs.BisonError.{Error}
use Rattle.cfgrammar.specs.BisonParsedFile.{ParsedFile}
use Rattle.cfgrammar.specs.Errors.{GrammarError}
use Rattle.cfglint_shell.specs.declared.file_kind.FileKind.{FileKind}
use Rattle.cfglint_shell.specs.declared.linter.LintOptions.{LintOptions}
use Rattle.cfglint_shell.specs.Tally.{Printed}
use Rattle.cfglint.specs.BisonNotes.{noted_bison, noted_bison_errors}
use Rattle.cfglint.specs.BisonReports.{ReportsBison, refused, too_large, found}
use Rattle.cfglint.specs.ReportedErrors.{NotedError, noted, noted_errors}
use Rattle.cfglint.specs.Suggestions.{Names, most_suggestions, no_names}

-- of some things the first are noted by one function, and the others by another: each is
noted_by : {X : Type 0} (first rest : X → NotedError) (all : List X)
    → length (map first (take most_suggestions all) ++ map rest (drop most_suggestions all)) ≡ length all
noted_by first rest all =
    let before = take most_suggestions all in
    let after = drop most_suggestions all in
    length-append (map first before) (map rest after)
    ∙ (λ i. length-map before first i + length-map after rest i)
    ∙ sym (length-append before after) ∙ ap length (take-append-drop most_suggestions all)

pub noted_length : (text : List ℕ) (names : Names) (all : List GrammarError) → length (noted_errors text names all) ≡ length all
noted_length text names all = noted_by (noted text names) (noted text no_names) all

pub noted_bison_length : (text : List ℕ) (names : Names) (all : List Error) → length (noted_bison_errors text names all) ≡ length all
noted_bison_length text names all = noted_by (noted_bison text names) (noted_bison text no_names) all

-- a file's report, whatever kind it says
pub bison_reported_as : (options : LintOptions) (name text : List ℕ) (file : ParsedFile) (reported : Printed) (kind : Option FileKind)
    → ReportsBison options name text file reported → ReportsBison options name text file (record reported { kind = kind })
bison_reported_as options name text file reported kind (refused are made) = refused are made
bison_reported_as options name text file reported kind (too_large are large made) = too_large are large made
bison_reported_as options name text file reported kind (found are fits made) = found are fits made
