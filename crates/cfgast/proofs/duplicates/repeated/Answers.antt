use Rattle.std.proofs.Common.{false, true, refl, ap, ◌∙◌}
use Rattle.cfgast.proofs.Repeats.{repeats_start, repeats_first, repeats_again, shown_more, from_added}
use Rattle.cfgast.proofs.duplicates.repeated.Goals as goal
use Rattle.cfgast.proofs.duplicates.repeated.Goals.{then-not-branch+in_ok-insert-2+in-Some-1, then-not-branch+in_ok-insert-2+in-None-1, else-not-branch}

pub loop-occurrence-init : goal.loop-occurrence-init
loop-occurrence-init c = repeats_start _ _ c.in_ok-declared.ensures.empty c.new-again.ensures.empty

pub loop-occurrence-preserved : goal.loop-occurrence-preserved
loop-occurrence-preserved c =
    let more = shown_more c.args.occurrences.now c.loop-occurrence.occurrence-index c.occurrence-item.result c.loop-occurrence-test.true c.occurrence-item.is in
    let inserted = c.in_ok-insert.ensures.keys in
    let added = c.in_ok-insert.ensures.added in
    elim c.if-not-branch.branch [
      | then-not-branch+in_ok-insert-2+in-Some-1 w ↦ repeats_again _ _ _ _ c.loop-occurrence.invariant _ _ refl inserted _ more _
          (from_added _ _ false added w.if-not-branch.true) w.new.result w.new.ensures.items (ap (λ m. m.entries) w.again-is ∙ w.in_ok-insert-2.ensures.entries)
      | then-not-branch+in_ok-insert-2+in-None-1 w ↦ repeats_again _ _ _ _ c.loop-occurrence.invariant _ _ refl inserted _ more _
          (from_added _ _ false added w.if-not-branch.true) w.new.result w.new.ensures.items (ap (λ m. m.entries) w.again-is ∙ w.in_ok-insert-2.ensures.entries)
      | else-not-branch w ↦ repeats_first _ _ _ _ c.loop-occurrence.invariant _ _ refl inserted _ more _
          (from_added _ _ true added w.if-not-branch.false) (ap (λ m. m.entries) w.again-is)
    ]
