-- What is reported for a text: its errors, or the findings about its grammar.
use Rattle.std.specs.Prelude.{ℕ, List}
use Rattle.cfgprogram.specs.declared.kinds.KindArg.{KindArg}
use Rattle.cfglint_shell.specs.declared.linter.LintOptions.{LintOptions}
use Rattle.cfglint_shell.specs.Tally.{Printed}
use Rattle.cfglint.specs.BisonReports.{ReportsAsBison}
use Rattle.cfglint.specs.Readings.{IsReadAsBison, IsReadAsYacc}
use Rattle.cfglint.specs.YaccReports.{ReportsYacc}

-- What is reported for a text in a file with this name: its errors if it has any, and otherwise its findings, as a file of the kind that it
-- is read as, or as a Bison file; and what it was read as.
pub data ReportsText (options : LintOptions) (name text : List ℕ) (reported : Printed) : Type 0 where
  of_yacc : (kind : KindArg) → IsReadAsYacc options text kind → ReportsYacc options name text kind reported
      → ReportsText options name text reported
  of_bison : IsReadAsBison options text → ReportsAsBison options name text reported → ReportsText options name text reported
