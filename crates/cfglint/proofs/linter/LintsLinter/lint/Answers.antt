use Rattle.std.proofs.Common.{subst}
use Rattle.cfglint.specs.Readings.{IsReading}
use Rattle.cfglint.specs.Reported.{of_yacc}
use Rattle.cfglint.proofs.Outcomes.{reported_of}
use Rattle.cfglint.proofs.linter.LintsLinter.lint.Goals as goal

pub returns-in_ok-read_as_yacc-in-Yacc : goal.returns-in_ok-read_as_yacc-in-Yacc
returns-in_ok-read_as_yacc-in-Yacc c =
    let options = c.args.options.now in
    let name = c.args.name.now in
    let text = c.args.text.now in
    let kind = c.in-Yacc.kind in
    let read = c.in_ok-read_as_yacc-in-Yacc in
    of_yacc kind (subst (IsReading options text) c.in-Yacc.is c.in_ok-kind.ensures) (reported_of options name text kind read.field-0 read.ensures)
