use Rattle.std.proofs.Common.{◌≡◌, ◌||◌, ◌+◌, Bool, true, false, cond, List, ◌++◌, Option, ap, append_assoc, arith, codes, length, nat_lt, not, refl, ◌∙◌}
use Rattle.std.specs.Prelude.{is_some}
use Rattle.std.proofs.lemmas.Bool.{lt-ltb, ltb-true, ltb_from_iff}
use Rattle.std.proofs.lemmas.List.{length-append}
use Rattle.cfgrammar.specs.TreeView.{syntax}
use Rattle.bison_findings.specs.Conflicts.{all_unmet}
use Rattle.bison_findings.specs.Shown.{unmet}
use Rattle.bison_findings.proofs.expectations.push_unmet.Goals as goal

module _ {X : Type 0} (before : List X) where
  added : (one two first second : List X) → first ≡ before ++ one → second ≡ first ++ two → second ≡ before ++ (one ++ two)
  added one two first second is more = more ∙ ap (λ xs. xs ++ two) is ∙ append_assoc before one two

  longer : (more after : List X) → after ≡ before ++ more → nat_lt (length before) (length after) ≡ nat_lt 0 (length more)
  longer more after is =
      let sum : length after ≡ length before + length more = ap length is ∙ length-append before more in
      ltb_from_iff ((λ t. omega (arith, sum, ltb-true (length before) (length after) t)), (λ less. lt-ltb (length before) (length after) (omega (arith, sum, less))))

listed : {A : Type 0} (shifts unmet : Bool) (own other : Option A)
    → cond shifts (unmet || not (is_some own)) (unmet || not (is_some other)) ≡ (unmet || not (is_some (cond shifts own other)))
listed true unmet own other = refl
listed false unmet own other = refl

pub returns-clause-unmet : goal.returns-clause-unmet
returns-clause-unmet c =
    let before = c.args.all.now.items in
    let between = c.push_number.new.all.items in
    added before _ _ between _
    (c.in_ok-push_number.ensures ∙ (λ i. before ++ unmet (codes "Shift/reduce conflicts: ") (c.shift_reduce.ensures i) (c.expect-expect.ensures i)))
    (c.in_ok-push_number-2.ensures ∙ (λ i. between ++ unmet (codes "Reduce/reduce conflicts: ") (c.reduce_reduce.ensures i) (c.expectrr-expectrr.ensures i)))

pub returns-clause-listing : goal.returns-clause-listing
returns-clause-listing c = λ clash.
    let settings = (syntax c.args.ast.now).settings in
    let more = all_unmet settings c.args.conflicts.now.conflicts in
    let before = c.args.all.now in
    let after = c.push_number-2.new.all in
    let unmet = (λ i. nat_lt ((c.len-before.ensures ∙ before.ok.0) i) ((c.len.ensures ∙ after.ok.0) i)) ∙ longer before.items more after.items (returns-clause-unmet c) in
    (λ i. cond clash.shifts (c.is_listed.ensures i) (c.is_listed-2.ensures i))
    ∙ (λ i. cond clash.shifts (unmet i || not (is_some (c.expect-expect.ensures i))) (unmet i || not (is_some (c.expectrr-expectrr.ensures i))))
    ∙ listed clash.shifts (nat_lt 0 (length more)) settings.expect settings.expect_reduce_reduce
