use Rattle.std.proofs.Common.{◌≡◌, List, length, count_by, string_bytes, ◌++◌, ◌∙◌, ap, subst, arith}
use Rattle.std.proofs.lemmas.List.Sums.{count_by-le-length}
use Rattle.cfglint.specs.ReportedFindings.{Reported, reported_by}
use Rattle.cfglint.specs.ReportedLines.{AreFindingLines}
use Rattle.cfglint.proofs.file_reporter.FileReporter.report_findings.Goals as goal

pub returns : goal.returns
returns c =
    let name = c.args.self.now.name.now in
    let text = c.args.text.now in
    let all = c.in_ok-all.all.items in
    let shown : List Reported = reported_by text c.args.self.now.options.levels all in
    let are : c.in_ok-reported.reported.items ≡ shown = c.in_ok-reported.ensures ∙ ap (reported_by text c.args.self.now.options.levels) c.deref.ensures.value in
    let found = c.in_ok-lines.lines in
    let lines = subst (λ (all : List Reported). AreFindingLines c.args.self.now.options.format c.args.self.now.options.columns c.args.self.now.options.colors name text all (string_bytes found))
    (c.deref-2.ensures.value ∙ are) c.in_ok-lines.ensures in
    let states = string_bytes c.in_ok-states.states in
    let joined = c.in_ok-push_str.ensures.bytes ∙ ap (λ l. string_bytes found ++ l) c.deref-3.ensures in
    let errors : c.error_count-errors.result ≡ count_by (λ (reported : Reported). reported.is_error) shown =
    c.error_count-errors.ensures ∙ ap (count_by (λ (reported : Reported). reported.is_error)) (c.deref-4.ensures.value ∙ are) in
    let few = count_by-le-length (λ (reported : Reported). reported.is_error) shown in
    let many : length c.in_ok-reported.reported.items ≡ length shown = ap length are in (
      all,
      c.in_ok-all.ensures,
      string_bytes found,
      states,
      lines,
      c.in_ok-states.ensures,
      joined,
      errors,
      omega (arith, c.len.ensures, c.in_ok-reported.reported.ok.0, errors, few, many),
    )
