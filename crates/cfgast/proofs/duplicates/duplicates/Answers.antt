use Rattle.std.proofs.Common.{refl, sym, ap, ◌∙◌}
use Rattle.std.specs.Borrow.{Bor}
use Rattle.cfgitems.specs.declared.occurrence.Unique.{Unique}
use Rattle.cfgast.specs.TreeView.{duplicate_view}
use Rattle.cfgast.specs.Duplicates.{duplicates}
use Rattle.cfgast.proofs.Gathered.{offset_apart, offset_added, located_nowhere}
use Rattle.cfgast.proofs.Repeats.{shown_more}
use Rattle.cfgast.proofs.duplicates.duplicates.Goals as goal
use Rattle.cfgast.proofs.duplicates.duplicates.Goals.{in-Some+in_ok-push, in_default}

pub loop-occurrence-preserved : goal.loop-occurrence-preserved
loop-occurrence-preserved c =
    let more = shown_more c.args.occurrences.now c.loop-occurrence.occurrence-index c.occurrence-item.result c.loop-occurrence-test.true c.occurrence-item.is in
    let key : Bor Unique = record { ref_ptr = (0, 0); now = c.occurrence-item.result.what } in
    elim c.match-get_mut.branch [
      | in-Some+in_ok-push w ↦ offset_added _ key refl _ _ more _ _ _ c.loop-occurrence.invariant w.in-Some.offsets.now w.push.new.self c.get_mut.ensures.unique
          (sym w.in-Some.ensures.value) w.in_ok-push.ensures.items (ap (λ m. m.entries) w.found-is ∙ (c.get_mut.follows.holds w.push.new.self).0)
      | in_default w ↦ offset_apart _ key refl _ _ more _ _ _ c.loop-occurrence.invariant (sym w.in_default.ensures.value)
          (ap (λ m. m.entries) w.found-is ∙ ap (λ m. m.entries) c.get_mut.follows.holds-at-none)
    ]

pub returns-then-is_empty : goal.returns-then-is_empty
unfolding duplicates
returns-then-is_empty c = located_nowhere duplicate_view _ _ _ _ (c.is_empty.ensures.0 c.if-is_empty.true) c.in_ok-found.ensures
