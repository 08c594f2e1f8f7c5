use Rattle.std.proofs.Common.{rules, subst}
use Rattle.cfgprogram.specs.ReadText.{IsUnnamed}
use Rattle.cfglint.specs.Readings.{IsReadAsYacc}
use Rattle.cfglint.proofs.reading.unrequested_reading.Goals as goal

pub returns-then-not-branch : goal.returns-then-not-branch
returns-then-not-branch c =
    IsReadAsYacc.itself c.requires (subst (IsUnnamed c.args.text.now) c.if-not-branch.true c.in_ok-names_no_kind.ensures)

pub returns-in-Some-Yacc : goal.returns-in-Some-Yacc
returns-in-Some-Yacc c =
    IsReadAsYacc.by_default {kind = c.in-Some-Yacc.kind} c.requires
    (subst (IsUnnamed c.args.text.now) c.if-not-branch.false c.in_ok-names_no_kind.ensures) (search rules)
