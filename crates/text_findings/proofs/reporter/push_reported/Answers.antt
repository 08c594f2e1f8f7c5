use Rattle.std.proofs.Common.{◌≡◌, ◌++◌, List, [], ◌∷◌, sym, subst, ap, ◌∙◌, append-nil, append_assoc}
use Rattle.text_findings.specs.Reports.{none, reported, left}
use Rattle.text_findings.specs.Finding.{ShownFinding}
use Rattle.text_findings.proofs.reporter.push_reported.Goals as goal
use Rattle.text_findings.proofs.reporter.push_reported.Goals.{in-Some+in_ok-push, in_default}

pub loop-number-init : goal.loop-number-init
loop-number-init g c = ([], none, sym (append-nil c.args.all.now.items))

appended : (after before start joined : List ShownFinding) (finding : ShownFinding) → after ≡ before ++ finding ∷ [] → before ≡ start ++ joined → after ≡ start ++ (joined ++ finding ∷ [])
appended after before start joined finding pushed is = pushed ∙ ap (λ t. t ++ finding ∷ []) is ∙ append_assoc start joined (finding ∷ [])

pub loop-number-preserved : goal.loop-number-preserved
loop-number-preserved g c =
    let (before, are, is) = c.loop-number.invariant in
    let reports = g.T.Reporter.reports c.args.reporter.now c.loop-number.number in
    elim c.match-branch-2.branch [
      | in-Some+in_ok-push w ↦
          let finding = w.in-Some.finding in (
            before ++ finding ∷ [],
            reported are (subst reports w.in-Some.is c.in_ok-finding.ensures),
            ap (λ all. all.items) w.all-is ∙ appended w.push.new.self.items c.loop-number.all.items c.args.all.now.items before finding w.in_ok-push.ensures.items is,
          )
      | in_default w ↦ (before, left are (subst reports w.in_default.is c.in_ok-finding.ensures), ap (λ all. all.items) w.all-is ∙ is)
    ]
