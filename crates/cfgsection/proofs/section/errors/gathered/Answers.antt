use Rattle.std.proofs.Common.{ℕ, List, Bor, Vec, Global, sym, ap, ◌∙◌}
use Rattle.cfgsection.specs.SectionReads.{entry_view}
use Rattle.cfgsection.proofs.SectionRepeats.{offsets_start, offsets_again, offsets_once, entries_more}
use Rattle.cfgsection.proofs.section.errors.gathered.Goals as goal
use Rattle.cfgsection.proofs.section.errors.gathered.Goals.{then-branch+in_ok-push, else-branch}

pub loop-entry-init : goal.loop-entry-init
loop-entry-init c = offsets_start _ _ c.new-offsets.ensures.empty c.new-again.ensures.items

pub loop-entry-preserved : goal.loop-entry-preserved
loop-entry-preserved c =
    let more = entries_more c.args.entries.now c.loop-entry.entry-index c.entry-item.result c.loop-entry-test.true c.entry-item.is in
    let x = entry_view c.entry-item.result in
    let found = c.in_ok-note.ensures in
    elim c.if-branch.branch [
      | then-branch+in_ok-push w ↦ offsets_again _ c.loop-entry.offsets _ c.loop-entry.invariant x c.as_str-key.result c.as_str-key.ensures.value c.note.new.offsets found.offsets _ more
          (sym found.second ∙ w.if-branch.true) _ (ap (λ (v : Vec (Bor (List ℕ)) Global). v.items) w.again-is ∙ w.in_ok-push.ensures.items)
      | else-branch w ↦ offsets_once _ c.loop-entry.offsets _ c.loop-entry.invariant x c.as_str-key.result c.as_str-key.ensures.value c.note.new.offsets found.offsets _ more
          (sym found.second ∙ w.if-branch.false) _ (ap (λ (v : Vec (Bor (List ℕ)) Global). v.items) w.again-is)
    ]
