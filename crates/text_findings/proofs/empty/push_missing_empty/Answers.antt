use Rattle.std.proofs.Common.{◌≡◌, ℕ, Bool, true, false, List, [], None, codes, if◌then◌else◌, ap, append-nil, length, refl, subst, sym, ◌∙◌}
use Rattle.std.specs.List.{list_any}
use Rattle.std.proofs.lemmas.List.{length-map}
use Rattle.std.proofs.lemmas.Result.{on_ok_weaker}
use Rattle.cfgrammar.specs.Syntax.{Syntax}
use Rattle.cfgrammar.specs.SyntaxView.{production_view}
use Rattle.cfgrammar.specs.TreeView.{syntax}
use Rattle.finding_kinds.specs.declared.finding_kind.FindingKind.TheVariants.{MissingEmpty}
use Rattle.text_findings.specs.Empty.{ReportsMissingEmpty, empty_finding, says_empty}
use Rattle.text_findings.specs.Finding.{ShownFinding}
use Rattle.text_findings.specs.Reports.{ReportsBelow}
use Rattle.text_findings.proofs.NoReports.{none_below}
use Rattle.text_findings.proofs.empty.push_missing_empty.Goals as goal

-- what is reported if this says whether a production is empty and says so
abbrev Reports : List ℕ → Syntax → Bool → ℕ → List ShownFinding → Type 0
Reports text s said n found =
    ReportsBelow (λ i finding. finding ≡ (if said then empty_finding MissingEmpty (codes "Empty production without %empty, which another one has") text s i else None)) n found

reports_missing : (text : List ℕ) (s : Syntax) (said : Bool) (n : ℕ) (found : List ShownFinding) → said ≡ list_any (says_empty text) s.productions
    → Reports text s said n found → ReportsBelow (ReportsMissingEmpty text s) n found
reports_missing text s said n found is reports = subst (λ b. Reports text s b n found) is reports

pub returns-then-is_said : goal.returns-then-is_said
returns-then-is_said c =
    let text = c.args.text.now in
    let s = syntax c.args.ast.now in
    let said : true ≡ list_any (says_empty text) s.productions = sym c.if-is_said.true ∙ c.is_said.ensures ∙ ap (list_any (says_empty text)) c.prods.ensures in
    let count : length c.prods-then-is_said.result.now ≡ length s.productions =
    sym (length-map c.prods-then-is_said.result.now production_view) ∙ ap length c.prods-then-is_said.ensures in
    on_ok_weaker c.push_reported.result
    (λ h. (
      h.0,
      subst (λ n. ReportsBelow (ReportsMissingEmpty text s) n h.0) count
          (reports_missing text s true (length c.prods-then-is_said.result.now) h.0 said h.1),
      h.2,
    ))
    c.push_reported.ensures

pub returns-else-is_said : goal.returns-else-is_said
returns-else-is_said c =
    let text = c.args.text.now in
    let s = syntax c.args.ast.now in
    let unsaid : false ≡ list_any (says_empty text) s.productions = sym c.if-is_said.false ∙ c.is_said.ensures ∙ ap (list_any (says_empty text)) c.prods.ensures in
    let n = length s.productions in
    ([], reports_missing text s false n [] unsaid (none_below (λ i finding. finding ≡ None) (λ i. refl) n), sym (append-nil c.args.all.now.items))
