use Rattle.std.proofs.Common.{◌≡◌, All, string_bytes, sym, subst, ap, ◌∙◌}
use Rattle.std.proofs.lemmas.Result.{IfOk-weaker}
use Rattle.cfgrammar.specs.TextSpans.{IsPiece, IsWithin}
use Rattle.cfgrammar.specs.TreeView.{syntax}
use Rattle.cfgtool.specs.ReportLines.{AreWarningLines, EachWarningSpan, warning_lines}
use Rattle.cfgtool.proofs.WarningPositions.{warning_positions}
use Rattle.cfgtool.proofs.engine.reported_warnings.Goals as goal

pub warning_lines-requires : goal.warning_lines-requires
warning_lines-requires c =
    subst (All (EachWarningSpan (IsPiece c.args.text.now))) (sym c.deref.ensures.value)
    (warning_positions (IsPiece c.args.text.now) (IsWithin c.args.text.now) (syntax c.args.ast.now) c.in_ok-warnings.warnings.items c.in_ok-warnings.ensures c.requires)

pub returns : goal.returns
returns c =
    IfOk-weaker c.warning_lines.result (λ lines. string_bytes lines ≡ warning_lines c.args.text.now c.deref.result.now)
    (λ lines. AreWarningLines c.args.text.now (syntax c.args.ast.now) (string_bytes lines))
    (λ lines lined. (c.in_ok-warnings.warnings.items, c.in_ok-warnings.ensures, lined ∙ ap (warning_lines c.args.text.now) c.deref.ensures.value)) c.warning_lines.ensures
