-- The lines for errors and for findings of a text, and what is reported with them.
use Rattle.std.specs.Prelude.{◌≡◌, ℕ, ◌+◌, ◌++◌, ◌&&◌, Bool, true, false, List, [], length, map, Option}
use Rattle.std.specs.List.{count_by}
use Rattle.std.specs.Option.{option_map_or}
use Rattle.cfgrammar.specs.Associativity.{Associativity}
use Rattle.cfgrammar.specs.ColumnUnit.{ColumnUnit}
use Rattle.cfgrammar.specs.Errors.{GrammarError}
use Rattle.cfgrammar.specs.Numbered.{Numbered}
use Rattle.cfgrammar.specs.Syntax.{Syntax}
use Rattle.cfgjson.specs.Annotations.{annotations}
use Rattle.cfgjson.specs.Objects.{AreJsonLines, diagnostic_object}
use Rattle.cfgjson.specs.Sarif.{result_lines}
use Rattle.cfglint_shell.specs.declared.format.Format.{Format}
use Rattle.cfglint_shell.specs.declared.format.Format.TheVariants.{Text, Json, Github, Sarif}
use Rattle.cfglint_shell.specs.Formats.{is_text}
use Rattle.cfglint_shell.specs.Tally.{Printed}
use Rattle.finding_kinds.specs.declared.levels.Levels.{Levels}
use Rattle.bison_findings.specs.States.{IsStatesText}
use Rattle.cfgfindings.specs.Findings.{AreFindings}
use Rattle.cfgfindings.specs.Shown.{ShownFinding}
use Rattle.cfglint.specs.ReportedErrors.{NotedError, error_lines, noted_errors, shown_error}
use Rattle.cfglint.specs.ReportedFindings.{Reported, finding_lines, reported_by, shown_finding}
use Rattle.cfglint.specs.ShownErrors.{shown_errors}
use Rattle.cfglint.specs.Suggestions.{names_of, no_names}

-- one of these, by the format
abbrev pub InFormat : Format → Type 0 → Type 0 → Type 0 → Type 0 → Type 0
InFormat Text AsText AsJson AsAnnotations AsResults = AsText
InFormat Json AsText AsJson AsAnnotations AsResults = AsJson
InFormat Github AsText AsJson AsAnnotations AsResults = AsAnnotations
InFormat Sarif AsText AsJson AsAnnotations AsResults = AsResults

-- the states of the parser, if they are shown
abbrev pub ShowsStates : Bool → Numbered → List Associativity → List ℕ → Type 0
ShowsStates true g associativities lines = IsStatesText g associativities lines
ShowsStates false g associativities lines = lines ≡ []

-- what is reported, in this format, with columns in this unit and with colours or not, for a text in a file with this name
module _ (format : Format) (unit : ColumnUnit) (colors : Bool) (name text : List ℕ) where
  -- the lines for errors and for findings in the format
  abbrev pub AreErrorLines : List NotedError → List ℕ → Type 0
  AreErrorLines all lines = InFormat format (lines ≡ error_lines unit colors name text all)
      (AreJsonLines (map (λ error. diagnostic_object name text (shown_error error)) all) lines)
      (lines ≡ annotations name text (map shown_error all)) (lines ≡ result_lines name text (map shown_error all))

  abbrev pub AreFindingLines : List Reported → List ℕ → Type 0
  AreFindingLines all lines = InFormat format (lines ≡ finding_lines unit colors name text all)
      (AreJsonLines (map (λ finding. diagnostic_object name text (shown_finding finding)) all) lines)
      (lines ≡ annotations name text (map shown_finding all)) (lines ≡ result_lines name text (map shown_finding all))

  -- these errors
  abbrev pub ReportsNoted : List NotedError → Printed → Type 0
  ReportsNoted all reported = AreErrorLines all reported.lines × (reported.errors ≡ length all) × (reported.warnings ≡ 0)

  -- that it has these errors, and was read as this syntax unless it names no kind: the errors that are shown, each with its note
  abbrev pub ReportsErrors : Option Syntax → List GrammarError → Printed → Type 0
  ReportsErrors syntax all reported =
      AreErrorLines (noted_errors text (option_map_or names_of syntax no_names) (shown_errors text syntax all)) reported.lines
      × (reported.errors ≡ length (shown_errors text syntax all)) × (reported.warnings ≡ 0)

  -- the findings about its grammar, given its syntax, its numbers, and how the operators of its levels associate, with these levels of
  -- findings but for those that comments allow, and after them the states if they are shown; those that are no errors are warnings
  abbrev pub ReportsFindings : Bool → Levels → Syntax → Numbered → List Associativity → Printed → Type 0
  ReportsFindings shows levels s g associativities reported = (all : List ShownFinding) × AreFindings text s g associativities all
      × (lines states : List ℕ) × AreFindingLines (reported_by text levels all) lines × ShowsStates (is_text format && shows) g associativities states
      × (reported.lines ≡ lines ++ states)
      × (reported.errors ≡ count_by (λ (finding : Reported). finding.is_error) (reported_by text levels all))
      × (reported.errors + reported.warnings ≡ length (reported_by text levels all))
