-- What is reported for a text as a Bison file.
use Rattle.std.specs.Prelude.{◌≡◌, ℕ, List, [], ◌∷◌, length, None, Some}
use Rattle.cfgrammar.specs.BisonAnswer.{bison_numbers}
use Rattle.cfgrammar.specs.BisonParsedFile.{IsParsedFile, ParsedFile}
use Rattle.cfgrammar.specs.Errors.{GrammarError, StorageTooSmall, error_at}
use Rattle.cfgrammar.specs.Fits.{Fits}
use Rattle.cfgprogram.specs.ReadText.{greatest}
use Rattle.cfglint_shell.specs.declared.file_kind.FileKind.TheVariants.{Bison}
use Rattle.cfglint_shell.specs.declared.linter.LintOptions.{LintOptions}
use Rattle.cfglint_shell.specs.Tally.{Printed}
use Rattle.cfglint.specs.BisonNotes.{noted_bison_errors}
use Rattle.cfglint.specs.FileLevels.{bison_levels}
use Rattle.cfglint.specs.ReportedErrors.{noted_as}
use Rattle.cfglint.specs.ReportedLines.{AreErrorLines, ReportsFindings, ReportsNoted}
use Rattle.cfglint.specs.Suggestions.{names_of}

-- the error that a grammar is too large, which has no note
abbrev pub too_large_error : GrammarError
too_large_error = error_at StorageTooSmall (record { start = 0; end = 0 })

module _ (options : LintOptions) (name text : List ℕ) where
  -- the errors of a file, each with its note
  abbrev pub ReportsBisonErrors : ParsedFile → Printed → Type 0
  ReportsBisonErrors file reported =
      AreErrorLines options.format options.columns options.colors name text (noted_bison_errors text (names_of file.syntax) file.errors) reported.lines
      × (reported.errors ≡ length file.errors) × (reported.warnings ≡ 0)

  -- that a grammar is too large, as for the other kinds
  abbrev pub ReportsTooLarge : Printed → Type 0
  ReportsTooLarge = ReportsNoted options.format options.columns options.colors name text (noted_as too_large_error None ∷ [])

  -- what is reported of a file: its errors if it has any, or that its grammar is too large, and otherwise its findings
  pub data ReportsBison (file : ParsedFile) (reported : Printed) : Type 0 where
    refused : (file.errors ≡ [] → ⊥) → ReportsBisonErrors file reported → ReportsBison file reported
    too_large : file.errors ≡ [] → (Fits greatest (bison_numbers file) → ⊥) → ReportsTooLarge reported → ReportsBison file reported
    found : file.errors ≡ [] → Fits greatest (bison_numbers file)
        → ReportsFindings options.format options.columns options.colors name text options.shows_states (bison_levels options.levels) file.syntax (bison_numbers file) file.levels reported
        → ReportsBison file reported

  -- the same of what the text says, and as what it was read
  abbrev pub ReportsAsBison : Printed → Type 0
  ReportsAsBison reported =
      (file : ParsedFile) × IsParsedFile text file × ReportsBison file reported × (reported.kind ≡ Some Bison)
