use Rattle.std.proofs.Common.{IfOk, ap, subst, ◌∙◌}
use Rattle.std.proofs.lemmas.Result.{IfOk-weaker}
use Rattle.cfgrammar.specs.BisonAnswer.{bison_numbers}
use Rattle.cfgrammar.specs.TreeView.{syntax}
use Rattle.cfglint.specs.BisonReports.{ReportsBison, found}
use Rattle.cfglint.specs.FileLevels.{bison_levels}
use Rattle.cfglint.specs.ReportedLines.{ReportsFindings}
use Rattle.cfglint.specs.declared.file_reporter.FileReporter.{FileReporter}
use Rattle.cfglint.proofs.bison.report_file.Goals as goal

pub returns-in-Ok : goal.returns-in-Ok
returns-in-Ok c =
    let options = c.args.reporter.now.options in
    let name = c.args.reporter.now.name.now in
    let text = c.args.text.now in
    let file = c.args.file.now in
    let answer = c.in-Ok.ensures in
    let Finds = ReportsFindings options.format options.columns options.colors name text options.shows_states (bison_levels options.levels) in
    let read = syntax c.ast.result.now in
    let levels = c.levels.result.now in
    IfOk-weaker c.report_findings.result (Finds read c.in-Ok.grammar levels) (ReportsBison options name text file) (λ reported made.
    found answer.0 answer.1 (subst (λ a. Finds file.syntax (bison_numbers file) a reported) c.levels.ensures (subst (λ g. Finds file.syntax g levels reported) answer.2
    (subst (λ s. Finds s c.in-Ok.grammar levels reported) c.ast.ensures made))))
    (subst (λ (reporter : FileReporter). IfOk c.report_findings.result (ReportsFindings reporter.options.format reporter.options.columns reporter.options.colors
    reporter.name.now text reporter.options.shows_states reporter.options.levels read c.in-Ok.grammar levels))
    (c.with_levels.ensures ∙ ap (λ levels. record c.args.reporter.now { options = record options { levels = levels } }) c.bison_levels.ensures) c.report_findings.ensures)
