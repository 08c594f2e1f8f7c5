use Rattle.cfgmarks.specs.Inner.Marking.{set_mark}
use Rattle.cfgmarks.specs.Marks.{marks}
use Rattle.cfgmarks.proofs.MarkEntries.{held_through, mark_keeps}
use Rattle.cfgmarks.proofs.markmap.entry.OccupiedEntry.mark.Goals as goal

pub invariant_of-self : goal.invariant_of-self
invariant_of-self g c = record {
  held =
      held_through g.K.Ord.cmp g.met.K.Ord.total (marks c.args.self.now.map.now) (marks c.mark_entry.new.self) c.args.self.now.key (set_mark c.args.mark) _
      c.mark_entry.ensures.map (mark_keeps c.args.mark) c.args.self.now.held;
}
