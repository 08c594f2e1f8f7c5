use Rattle.std.proofs.Common.{subst, ◌∙◌}
use Rattle.std.proofs.lemmas.Result.{on_ok_weaker}
use Rattle.cfgfindings.specs.Findings.{ReportsBelow, ReportsRepeated}
use Rattle.cfgfindings.proofs.Reporting.{reports_as}
use Rattle.cfgfindings.proofs.repeats.push_repeats.Goals as goal

pub returns : goal.returns
returns c =
    let g = c.args.grammar.now in
    on_ok_weaker c.push_reported.result
    (λ h. (
      h.0,
      subst (λ n. ReportsBelow (ReportsRepeated g) n h.0) (c.from.ensures ∙ c.start_prod.ensures.value) (reports_as _ (ReportsRepeated g) (λ n finding reports. reports c.in_ok-firsts.ensures) h.1),
      h.2,
    ))
    c.push_reported.ensures
