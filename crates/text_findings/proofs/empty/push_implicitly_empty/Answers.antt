use Rattle.std.proofs.Common.{◌≡◌, ap, length, subst, sym, ◌∙◌}
use Rattle.std.proofs.lemmas.List.{length-map}
use Rattle.std.proofs.lemmas.Result.{on_ok_weaker}
use Rattle.cfgrammar.specs.SyntaxView.{production_view}
use Rattle.cfgrammar.specs.TreeView.{syntax}
use Rattle.text_findings.specs.Empty.{ReportsImplicitlyEmpty}
use Rattle.text_findings.specs.Reports.{ReportsBelow}
use Rattle.text_findings.proofs.empty.push_implicitly_empty.Goals as goal

pub returns : goal.returns
returns c =
    let s = syntax c.args.ast.now in
    let count : length c.prods.result.now ≡ length s.productions = sym (length-map c.prods.result.now production_view) ∙ ap length c.prods.ensures in
    on_ok_weaker c.push_reported.result
    (λ h. (h.0, subst (λ n. ReportsBelow (ReportsImplicitlyEmpty c.args.text.now s) n h.0) count h.1, h.2))
    c.push_reported.ensures
