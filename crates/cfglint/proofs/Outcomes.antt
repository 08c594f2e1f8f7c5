-- What an outcome says of its text.
use Rattle.std.proofs.Common.{◌≡◌, ℕ, List, [], true, false, inl, inr, Option, refl, sym, ◌∙◌}
use Rattle.cfgrammar.specs.Answer.{Found, Unnamed, WasRead, IsGrammar, in_numbers}
use Rattle.cfgrammar.specs.Numbered.{Numbered}
use Rattle.cfgprogram.specs.declared.kinds.KindArg.{KindArg}
use Rattle.cfgprogram.specs.ReadText.{IsMadeOf, greatest}
use Rattle.cfglint_shell.specs.declared.file_kind.FileKind.{FileKind}
use Rattle.cfglint_shell.specs.declared.linter.LintOptions.{LintOptions}
use Rattle.cfglint_shell.specs.Tally.{Printed}
use Rattle.cfglint.specs.FileLevels.{yacc_levels}
use Rattle.cfglint.specs.ReportedLines.{ReportsErrors, ReportsFindings}
use Rattle.cfglint.specs.YaccReports.{IsFoundOutcome, IsOutcome, IsRefusedOutcome, ReportsYacc}
use Rattle.cfglint.specs.declared.yacc.Outcome.{Outcome}

different : true ≡ false → ⊥
different is = cc

module _ (options : LintOptions) (name text : List ℕ) where
  abbrev Makes : Found → Outcome → Type 0
  Makes = IsMadeOf (IsRefusedOutcome options name text) (IsFoundOutcome options name text)

  abbrev MakesReport : Found → Printed → Type 0
  MakesReport = IsMadeOf (ReportsErrors options.format options.columns options.colors name text)
      (λ s g. ReportsFindings options.format options.columns options.colors name text options.shows_states (yacc_levels options.levels) s g [])

  -- it is the same whatever kind its report says
  pub outcome_as : (outcome : Outcome) (kind : Option FileKind) (found : Found) → Makes found outcome
      → Makes found (record outcome { report = record outcome.report { kind = kind } })
  outcome_as outcome kind (Unnamed errors) made = made
  outcome_as outcome kind (WasRead parsed) made = made

  report_of : (outcome : Outcome) (found : Found) → Makes found outcome → MakesReport found outcome.report
  report_of outcome (Unnamed errors) (inl made) = inl (made.0, made.1, made.2.0)
  report_of outcome (Unnamed errors) (inr made) = absurd made
  report_of outcome (WasRead parsed) (inl made) = inl (made.0, made.1, made.2.0)
  report_of outcome (WasRead parsed) (inr made) = inr (made.0, made.1, made.2.0)

  -- what is reported
  pub reported_of : (kind : KindArg) (outcome : Outcome) → IsOutcome options name text kind outcome → ReportsYacc options name text kind outcome.report
  reported_of kind outcome is = (is.0, is.1, report_of outcome is.0 is.2, is.3)

  pub grammar_of : (outcome : Outcome) (found : Found) → Makes found outcome → outcome.is_refused ≡ false
      → (grammar : Numbered) × IsGrammar greatest found grammar
  grammar_of outcome found (inl made) is = absurd (different (sym made.2.1 ∙ is))
  grammar_of outcome (Unnamed errors) (inr made) is = absurd made
  grammar_of outcome (WasRead parsed) (inr made) is = (in_numbers parsed, (made.0, made.1, refl))
