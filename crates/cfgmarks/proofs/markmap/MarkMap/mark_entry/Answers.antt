use Rattle.std.proofs.Common.{sym, ap, ◌∙◌}
use Rattle.std.specs.Option.{option_copied_mut}
use Rattle.std.specs.BTreeMap.{is_at}
use Rattle.std.specs.Map as map
use Rattle.cfgmarks.specs.Inner.Marking.{set_mark}
use Rattle.cfgmarks.specs.Marks.{marks}
use Rattle.cfgmarks.proofs.MarkEntries.{changed_by_write}
use Rattle.cfgmarks.proofs.markmap.MarkMap.mark_entry.Goals as goal

pub returns-in-Some-clause-map : goal.returns-in-Some-clause-map
returns-in-Some-clause-map g c =
    changed_by_write g.K.Ord.cmp g.met.K.Ord.total (marks c.args.self.now) c.args.key.now c.in-Some.marked.now (set_mark c.args.mark) _ c.get_mut.ensures.ordered
    (sym c.get_mut.ensures.value ∙ ap option_copied_mut c.in-Some.is)
    ((c.get_mut.follows.holds c.set.new.self).0 ∙ ap (map.set_value (is_at (g.K.Ord.cmp c.args.key.now)) c.args.self.now.contents.entries) c.set.ensures)
