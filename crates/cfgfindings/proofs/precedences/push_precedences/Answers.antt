use Rattle.std.proofs.Common.{◌≡◌, length, sym, ap, subst, ◌∙◌, arith}
use Rattle.std.proofs.lemmas.List.{length-map}
use Rattle.std.proofs.lemmas.Result.{on_ok_weaker}
use Rattle.cfgrammar.specs.SyntaxView.{precedence_entry}
use Rattle.cfgrammar.specs.TreeView.{syntax}
use Rattle.cfgfindings.specs.Findings.{ReportsBelow, ReportsUnusedPrecedence}
use Rattle.cfgfindings.proofs.Reporting.{reports_as}
use Rattle.cfgfindings.proofs.precedences.push_precedences.Goals as goal

pub push_reported-requires : goal.push_reported-requires
push_reported-requires c = omega (arith, c.len.ensures.len, length-map c.precs.result.now.entries precedence_entry, ap length c.precs.ensures)

pub returns : goal.returns
returns c =
    let s = syntax c.args.ast.now in
    let count : c.len.result ≡ length s.tables.precedences = c.len.ensures.len ∙ sym (length-map c.precs.result.now.entries precedence_entry) ∙ ap length c.precs.ensures in
    on_ok_weaker c.push_reported.result
    (λ h. (h.0, subst (λ n. ReportsBelow (ReportsUnusedPrecedence s) n h.0) count (reports_as _ (ReportsUnusedPrecedence s) (λ n finding reports. reports c.in_ok-used.ensures) h.1), h.2))
    c.push_reported.ensures
