-- What is reported for a text as a file of one of the library's kinds.
use Rattle.std.specs.Prelude.{◌≡◌, ℕ, List, [], Option, option_map, true, false}
use Rattle.cfgrammar.specs.Answer.{Found}
use Rattle.cfgrammar.specs.Errors.{GrammarError}
use Rattle.cfgrammar.specs.Numbered.{Numbered}
use Rattle.cfgrammar.specs.Syntax.{Syntax}
use Rattle.cfgprogram.specs.declared.kinds.KindArg.{KindArg}
use Rattle.cfgprogram.specs.ReadText.{IsFound, IsMadeOf, kind_read}
use Rattle.cfglint_shell.specs.declared.file_kind.FileKind.TheVariants.{Yacc}
use Rattle.cfglint_shell.specs.declared.linter.LintOptions.{LintOptions}
use Rattle.cfglint_shell.specs.Tally.{Printed}
use Rattle.cfglint.specs.FileLevels.{yacc_levels}
use Rattle.cfglint.specs.ReportedLines.{ReportsErrors, ReportsFindings}
use Rattle.cfglint.specs.declared.yacc.Outcome.{Outcome}

module _ (options : LintOptions) (name text : List ℕ) where
  -- its errors if it has any, and otherwise its findings; and the kind that it was read as
  abbrev pub ReportsYacc : KindArg → Printed → Type 0
  ReportsYacc kind reported = (found : Found) × IsFound kind text found
      × IsMadeOf (ReportsErrors options.format options.columns options.colors name text)
      (λ s g. ReportsFindings options.format options.columns options.colors name text options.shows_states (yacc_levels options.levels) s g []) found reported
      × (reported.kind ≡ option_map Yacc (kind_read found))

  -- what the code makes of errors and of a grammar: the same, and whether the text is refused
  abbrev pub IsRefusedOutcome : Option Syntax → List GrammarError → Outcome → Type 0
  IsRefusedOutcome syntax all outcome =
      ReportsErrors options.format options.columns options.colors name text syntax all outcome.report × (outcome.is_refused ≡ true)

  abbrev pub IsFoundOutcome : Syntax → Numbered → Outcome → Type 0
  IsFoundOutcome s g outcome =
      ReportsFindings options.format options.columns options.colors name text options.shows_states (yacc_levels options.levels) s g [] outcome.report × (outcome.is_refused ≡ false)

  abbrev pub IsOutcome : KindArg → Outcome → Type 0
  IsOutcome kind outcome = (found : Found) × IsFound kind text found × IsMadeOf IsRefusedOutcome IsFoundOutcome found outcome
      × (outcome.report.kind ≡ option_map Yacc (kind_read found))
