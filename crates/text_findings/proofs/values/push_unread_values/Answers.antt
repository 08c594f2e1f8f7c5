use Rattle.std.proofs.Common.{◌≡◌, ℕ, Bool, true, false, List, [], None, if◌then◌else◌, ap, append-nil, length, refl, subst, sym, ◌∙◌}
use Rattle.std.specs.List.{list_any}
use Rattle.std.proofs.lemmas.List.{length-map}
use Rattle.std.proofs.lemmas.Result.{on_ok_weaker}
use Rattle.cfgrammar.specs.Syntax.{Syntax}
use Rattle.cfgrammar.specs.SyntaxView.{production_view}
use Rattle.cfgrammar.specs.TreeView.{syntax}
use Rattle.text_findings.specs.Finding.{ShownFinding}
use Rattle.text_findings.specs.Reports.{ReportsBelow}
use Rattle.text_findings.specs.Values.{ReportsUnreadValue, inherits, unread_at}
use Rattle.text_findings.proofs.NoReports.{none_below}
use Rattle.text_findings.proofs.values.push_unread_values.Goals as goal

-- what is reported if this says whether an action inherits a value
abbrev Reports : Syntax → Bool → ℕ → List ShownFinding → Type 0
Reports s inheriting n found = ReportsBelow (λ i finding. finding ≡ (if inheriting then None else unread_at s i)) n found

reports_unread : (s : Syntax) (inheriting : Bool) (n : ℕ) (found : List ShownFinding) → inheriting ≡ list_any inherits s.productions
    → Reports s inheriting n found → ReportsBelow (ReportsUnreadValue s) n found
reports_unread s inheriting n found is reports = subst (λ b. Reports s b n found) is reports

pub returns-then-is_inheriting : goal.returns-then-is_inheriting
returns-then-is_inheriting c =
    let s = syntax c.args.ast.now in
    let inheriting : true ≡ list_any inherits s.productions = sym c.if-is_inheriting.true ∙ c.is_inheriting.ensures ∙ ap (list_any inherits) c.prods.ensures in
    let n = length s.productions in
    ([], reports_unread s true n [] inheriting (none_below (λ i finding. finding ≡ None) (λ i. refl) n), sym (append-nil c.args.all.now.items))

pub returns-else-is_inheriting : goal.returns-else-is_inheriting
returns-else-is_inheriting c =
    let s = syntax c.args.ast.now in
    let none : false ≡ list_any inherits s.productions = sym c.if-is_inheriting.false ∙ c.is_inheriting.ensures ∙ ap (list_any inherits) c.prods.ensures in
    let count : length c.prods-else-is_inheriting.result.now ≡ length s.productions =
    sym (length-map c.prods-else-is_inheriting.result.now production_view) ∙ ap length c.prods-else-is_inheriting.ensures in
    on_ok_weaker c.push_reported.result
    (λ h. (
      h.0,
      subst (λ n. ReportsBelow (ReportsUnreadValue s) n h.0) count (reports_unread s false (length c.prods-else-is_inheriting.result.now) h.0 none h.1),
      h.2,
    ))
    c.push_reported.ensures
