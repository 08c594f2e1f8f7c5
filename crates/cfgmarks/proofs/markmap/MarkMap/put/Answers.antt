use Rattle.std.proofs.Common.{◌≡◌, Some, is_some, refl, sym, ap, ◌∙◌}
use Rattle.std.specs.Option.{option_copied_mut}
use Rattle.cfgmarks.specs.Marks.{marks, entry_at, set_value}
use Rattle.cfgmarks.proofs.MarkEntries.{changed_by_write}
use Rattle.cfgmarks.proofs.markmap.MarkMap.put.Goals as goal

pub returns-in-Some : goal.returns-in-Some
returns-in-Some g c =
    let found : entry_at g.K.Ord.cmp (marks c.args.self.now) c.args.key.now ≡ Some c.in-Some.marked.now =
    sym c.get_mut.ensures.value ∙ ap option_copied_mut c.in-Some.is in (
      (
        refl,
        λ w _.
            changed_by_write g.K.Ord.cmp g.met.K.Ord.total (marks c.args.self.now) c.args.key.now c.in-Some.marked.now (set_value w) _ c.get_mut.ensures.ordered found
            (c.get_mut.follows.holds _).0,
        tt,
      ),
      record { writes_back = tt; value = c.lend_value.ensures.value; found = sym (ap is_some found); handed_back = tt },
    )
