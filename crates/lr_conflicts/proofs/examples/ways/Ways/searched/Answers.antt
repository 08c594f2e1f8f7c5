use Rattle.std.proofs.Common.{◌≤◌, inl, inr, None, ap, arith, is_some, length, subst, sym, ◌∙◌, true≢false}
use Rattle.std.proofs.lemmas.Bool.{cases_lt}
use Rattle.search.proofs.PathGroups.{contains_there}
use Rattle.lr_conflicts.specs.declared.examples.nodes.Node.{Node}
use Rattle.lr_conflicts.specs.declared.examples.nodes.Step.{Step}
use Rattle.lr_conflicts.specs.Inner.Searches.{setting}
use Rattle.lr_conflicts.specs.Inner.Ways.{Begins, Finds}
use Rattle.lr_conflicts.proofs.Compared.{known_step}
use Rattle.lr_conflicts.proofs.Explored.{partly_first, partly_more, searched_all, searched_known}
use Rattle.lr_conflicts.proofs.Walked.{known_shown}
use Rattle.lr_conflicts.proofs.examples.ways.Ways.searched.Goals as goal
use Rattle.lr_conflicts.proofs.examples.ways.Ways.searched.Goals.{else-loop-number-test, then-loop-number-test+then-contains_key, then-loop-number-test+else-contains_key+in_default}

pub loop-number-init : goal.loop-number-init
loop-number-init c =
    let w = setting c.args.self.now in
    partly_first w c.begin.new.found.entries
    (subst (λ l. Finds w None (Begins w) l c.begin.new.found.entries) c.new-found.ensures.empty c.in_ok-begin.ensures)

pub go_on-requires-clause-shown : goal.go_on-requires-clause-shown
go_on-requires-clause-shown c =
    let w = setting c.args.self.now in
    let es = c.loop-number.found.entries in
    let i = c.loop-number.number in
    let entry : Node × Step = (c.in-Some.next.now, c.in-Some._step.now) in
    known_shown w es c.loop-number.invariant.steps entry.0 (entry.1, contains_there es i entry (sym c.in-Some.ensures.entry))

pub loop-number-preserved : goal.loop-number-preserved
loop-number-preserved c =
    let w = setting c.args.self.now in
    let es = c.loop-number.found.entries in
    let i = c.loop-number.number in
    let entry : Node × Step = (c.in-Some.next.now, c.in-Some._step.now) in
    partly_more w i es c.go_on.new.found.entries entry c.loop-number.invariant (sym c.in-Some.ensures.entry) c.in_ok-go_on.ensures

pub returns : goal.returns
returns c =
    let w = setting c.args.self.now in
    let es = c.loop-number.found.entries in
    let i = c.loop-number.number in
    elim c.loop-number-test.branch [
      | else-loop-number-test v ↦ searched_all w c.args.node i es c.loop-number.invariant
          (omega (arith, c.len-count.ensures.len, c.len-count.ensures.small, v.loop-number-test.false))
      | then-loop-number-test+then-contains_key v ↦
          searched_known w c.args.node i es c.loop-number.invariant
          (known_step c.args.node es (sym v.contains_key.ensures ∙ v.if-contains_key.true))
      | then-loop-number-test+else-contains_key+in_default v ↦
          let most : length es ≤ i = elim (cases_lt i (length es)) [
            | inl within ↦ absurd (true≢false (sym (v.get_index.ensures.found.1 within) ∙ ap is_some v.in_default.is))
            | inr past ↦ past
          ] in
          searched_all w c.args.node i es c.loop-number.invariant most
    ]
