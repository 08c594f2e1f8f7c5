use Rattle.std.proofs.Common.{◌≡◌, map, refl, sym, ap, ◌∙◌, subst}
use Rattle.std.specs.Prelude.{IfOk}
use Rattle.std.proofs.lemmas.Result.{IfOk-weaker}
use Rattle.cfglint_shell.specs.Inner.{requested_view, stop_view}
use Rattle.cfglint_shell.specs.Run.{Answers}
use Rattle.cfglint_shell.specs.Requests.{Requested, Help, requested}
use Rattle.cfglint_shell.proofs.FilesInTurn.{none_requested, on_err}
use Rattle.cfglint_shell.proofs.program.answered.Goals as goal

pub returns-in_err-requested_by-clause-err : goal.returns-in_err-requested_by-clause-err
returns-in_err-requested_by-clause-err g c = on_err c.from_residual.result (none_requested g.S.Source.fetches c.args.source.now _)

pub returns-in-Stops-Help-clause-ok : goal.returns-in-Stops-Help-clause-ok
returns-in-Stops-Help-clause-ok g c =
    let asks : Help ≡ requested (map (λ argument. argument.now) c.args.args.now) =
    ap stop_view (sym c.in-Stops-Help.field-0-is) ∙ (ap requested_view (sym c.in-Stops-Help.is) ∙ c.in_ok-requested_by.ensures) in
    subst (λ (a : Requested). IfOk c.written.result (Answers g.L.Linter.reports g.S.Source.fetches g.S.SourceWithReasons.reason c.args.source.now c.args.source.now a)) asks
    (IfOk-weaker c.written.result _ _ (λ answer is. (refl, is)) c.written.ensures)

pub returns-in-Stops-Help-clause-err : goal.returns-in-Stops-Help-clause-err
returns-in-Stops-Help-clause-err g c = on_err c.written.result (none_requested g.S.Source.fetches c.args.source.now _)

pub returns-in-Stops-Version-clause-err : goal.returns-in-Stops-Version-clause-err
returns-in-Stops-Version-clause-err g c = on_err c.written-in-Stops-Version.result (none_requested g.S.Source.fetches c.args.source.now _)

pub returns-in-Stops-Wrong-clause-err : goal.returns-in-Stops-Wrong-clause-err
returns-in-Stops-Wrong-clause-err g c = on_err c.refused.result (none_requested g.S.Source.fetches c.args.source.now _)
