use Rattle.std.proofs.Common.{option_map, ap, subst, sym, ◌∙◌}
use Rattle.cfgprogram.specs.ReadText.{IsMadeOf}
use Rattle.cfglint_shell.specs.declared.file_kind.FileKind.TheVariants.{Yacc}
use Rattle.cfglint.specs.YaccReports.{IsFoundOutcome, IsRefusedOutcome}
use Rattle.cfglint.proofs.Outcomes.{outcome_as}
use Rattle.cfglint.proofs.yacc.read_as_yacc.Goals as goal

pub returns : goal.returns
returns c =
    let options = c.args.reporter.now.options in
    let name = c.args.reporter.now.name.now in
    let text = c.args.text.now in
    let it = c.in_ok-outcome.ensures in
    let Makes = IsMadeOf (IsRefusedOutcome options name text) (IsFoundOutcome options name text) it.0 in
    (it.0, it.1, outcome_as options name text _ c.file_kind.result it.0 (subst Makes (sym c.outcome.view_is) it.2.0), c.file_kind.ensures ∙ ap (option_map Yacc) it.2.1)
