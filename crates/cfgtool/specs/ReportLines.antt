-- The lines of productions, errors and warnings.
use Rattle.std.specs.Prelude.{◌≡◌, ℕ, ◌<◌, List, [], ◌++◌, All, length, slice_get, codes}
use Rattle.std.specs.List.{flat_map, enumerate_from}
use Rattle.std.specs.Option.{option_map_or}
use Rattle.std.specs.Fmt.{decimal}
use Rattle.cfgrammar.specs.Span.{Span}
use Rattle.cfgrammar.specs.Lines.{line_number, column}
use Rattle.cfgrammar.specs.Syntax.{Syntax}
use Rattle.cfgrammar.specs.Unused.{AreWarnings}
use Rattle.cfgrammar.specs.Errors.{GrammarError}
use Rattle.cfgrammar.specs.ErrorTexts.{error_text}
use Rattle.cfgrammar.specs.WarningTexts.{warning_text}
use Rattle.cfgrammar.specs.Warnings.{GrammarWarning}
use Rattle.cfgrammar.specs.Numbered.{Numbered, NumberedProduction}
use Rattle.cfgrammar.specs.Accessors.{production_text}

-- `LINE:COLUMN: ` of an offset in the text
abbrev pub position_text : List ℕ → ℕ → List ℕ
position_text text b = decimal (line_number text b) ++ (codes ":" ++ (decimal (column text b) ++ codes ": "))

-- the position where the first of these spans starts, or nothing if there are none
abbrev pub first_position : List ℕ → List Span → List ℕ
first_position text spans = option_map_or (λ span. position_text text span.start) (slice_get spans 0) []

-- an error's line: its position and its text
abbrev pub error_line : List ℕ → GrammarError → List ℕ
error_line text error = first_position text error.spans ++ (error_text error.kind ++ codes "\n")

abbrev pub error_lines : List ℕ → List GrammarError → List ℕ
error_lines text errors = flat_map (error_line text) errors

-- a warning's line: its position and its text
abbrev pub warning_line : List ℕ → GrammarWarning → List ℕ
warning_line text warning = first_position text warning.spans ++ (warning_text warning.kind ++ codes "\n")

abbrev pub warning_lines : List ℕ → List GrammarWarning → List ℕ
warning_lines text warnings = flat_map (warning_line text) warnings

-- a warning has at least one span, and P is true of each
pub record EachWarningSpan (P : Span → Type 0) (warning : GrammarWarning) : Type 0 where
  pub some : 0 < length warning.spans
  pub each : All P warning.spans

-- the lines of a syntax's warnings
abbrev pub AreWarningLines : List ℕ → Syntax → List ℕ → Type 0
AreWarningLines text s lines = (warnings : List GrammarWarning) × AreWarnings s warnings × (lines ≡ warning_lines text warnings)

-- a production's line: its index, a space and its text
abbrev pub production_line : Numbered → ℕ × NumberedProduction → List ℕ
production_line g production = decimal production.0 ++ (codes " " ++ (production_text g production.1 ++ codes "\n"))

abbrev pub production_lines : Numbered → List ℕ
production_lines g = flat_map (production_line g) (enumerate_from 0 g.productions)
