use Rattle.std.proofs.Common.{Some, refl, subst, sym}
use Rattle.cfglint_shell.specs.declared.file_kind.FileKind.TheVariants.{Bison}
use Rattle.cfglint.specs.BisonReports.{ReportsBison}
use Rattle.cfglint.proofs.Reporting.{bison_reported_as}
use Rattle.cfglint.proofs.bison.bison_report.Goals as goal

pub returns : goal.returns
returns c =
    let options = c.args.reporter.now.options in
    let name = c.args.reporter.now.name.now in
    let text = c.args.text.now in
    let file = c.in_ok-file.file in
    (file, c.in_ok-file.ensures.file, bison_reported_as options name text file _ (Some Bison) (subst (ReportsBison options name text file) (sym c.report.view_is) c.in_ok-report.ensures), refl)
