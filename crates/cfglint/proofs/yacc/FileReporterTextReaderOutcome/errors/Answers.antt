use Rattle.std.proofs.Common.{◌≡◌, List, length, option_map, ◌∙◌, ap, refl, subst}
use Rattle.std.specs.Option.{option_map_or}
use Rattle.cfgrammar.specs.TreeView.{syntax}
use Rattle.cfglint.specs.ReportedErrors.{NotedError, noted_errors}
use Rattle.cfglint.specs.ReportedLines.{AreErrorLines}
use Rattle.cfglint.specs.ShownErrors.{shown_errors}
use Rattle.cfglint.specs.Suggestions.{names_of, no_names}
use Rattle.cfglint.proofs.Reporting.{noted_length}
use Rattle.cfglint.proofs.yacc.FileReporterTextReaderOutcome.errors.Goals as goal

pub returns : goal.returns
returns c =
    let options = c.args.self.now.options in
    let name = c.args.self.now.name.now in
    let text = c.args.text.now in
    let read = option_map (λ ast. syntax ast.now) c.args.ast in
    let shown = shown_errors text read c.args.errors.now in
    let names = option_map_or names_of read no_names in
    let names_are = c.in_ok-names.ensures in
    let shown_are = c.deref.ensures.value ∙ c.in_ok-shown.ensures in
    let noted : c.in_ok-reported.reported.items ≡ noted_errors text names shown = c.in_ok-reported.ensures ∙ (λ i. noted_errors text (names_are i) (shown_are i)) in
    let are : c.deref-2.result.now ≡ noted_errors text names shown = c.deref-2.ensures.value ∙ noted in
    let made = c.in_ok-report.ensures in
    let lines = subst (λ (all : List NotedError). AreErrorLines options.format options.columns options.colors name text all c.in_ok-report.report.lines) are made.0 in
    ((lines, made.1 ∙ ap length are ∙ noted_length text names shown, made.2), refl)
