use Rattle.std.proofs.Common.{[], ap, refl, subst, ◌∙◌}
use Rattle.cfgrammar.specs.TreeView.{syntax}
use Rattle.cfglint.specs.ReportedLines.{ReportsFindings}
use Rattle.cfglint.specs.declared.file_reporter.FileReporter.{FileReporter}
use Rattle.cfglint.proofs.yacc.FileReporterTextReaderOutcome.grammar.Goals as goal

pub returns : goal.returns
returns c =
    let reporter = c.args.self.now in (
      subst (λ (reporter : FileReporter). ReportsFindings reporter.options.format reporter.options.columns reporter.options.colors reporter.name.now
          c.args.text.now reporter.options.shows_states reporter.options.levels (syntax c.args.ast.now) c.args.grammar.now [] c.in_ok-report.report)
          (c.with_levels-reporter.ensures ∙ ap (λ levels. record reporter { options = record reporter.options { levels = levels } }) c.yacc_levels.ensures)
          c.in_ok-report.ensures,
      refl,
    )
