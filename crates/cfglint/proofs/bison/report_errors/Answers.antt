use Rattle.std.proofs.Common.{◌≡◌, List, length, ◌∙◌, ap, subst}
use Rattle.std.proofs.lemmas.Result.{IfOk-weaker}
use Rattle.cfglint.specs.BisonNotes.{noted_bison_errors}
use Rattle.cfglint.specs.BisonReports.{ReportsBisonErrors}
use Rattle.cfglint.specs.ReportedErrors.{NotedError}
use Rattle.cfglint.specs.ReportedLines.{AreErrorLines, ReportsNoted}
use Rattle.cfglint.specs.Suggestions.{names_of}
use Rattle.cfglint.proofs.Reporting.{noted_bison_length}
use Rattle.cfglint.proofs.bison.report_errors.Goals as goal

pub returns : goal.returns
returns c =
    let options = c.args.reporter.now.options in
    let name = c.args.reporter.now.name.now in
    let text = c.args.text.now in
    let file = c.args.file.now in
    let names = names_of file.syntax in
    let names_are : c.in_ok-names.names ≡ names = c.in_ok-names.ensures ∙ ap names_of c.ast.ensures in
    let noted : c.in_ok-reported.reported.items ≡ noted_bison_errors text names file.errors =
    c.in_ok-reported.ensures ∙ (λ i. noted_bison_errors text (names_are i) (c.errors.ensures i)) in
    let are : c.deref.result.now ≡ noted_bison_errors text names file.errors = c.deref.ensures.value ∙ noted in
    IfOk-weaker c.report_errors.result (ReportsNoted options.format options.columns options.colors name text c.deref.result.now) (ReportsBisonErrors options name text file)
    (λ reported made. (
      subst (λ (all : List NotedError). AreErrorLines options.format options.columns options.colors name text all reported.lines) are made.0,
      made.1 ∙ ap length are ∙ noted_bison_length text names file.errors,
      made.2,
    )) c.report_errors.ensures
