use Rattle.std.proofs.Common.{refl, ◌∙◌}
use Rattle.cfgmarks.specs.Marks.{marks, set_value}
use Rattle.cfgmarks.proofs.MarkEntries.{held_after}
use Rattle.cfgmarks.proofs.markmap.entry.VacantEntry.insert_entry.Goals as goal

pub invariant_of-result : goal.invariant_of-result
invariant_of-result g c = record {
  held =
      held_after g.K.Ord.cmp g.met.K.Ord.total (marks c.ensure_entry.new.map) (marks c.replace_value.new.self) c.in-Ok.index c.args.value c.replace_value.ensures.map;
}

pub returns : goal.returns
returns g c = (
  (refl, λ w. refl, tt),
  record {
    rests = tt;
    map = c.replace_value.ensures.map ∙ c.in-Ok.ensures.map (set_value c.args.value);
    key = c.in-Ok.ensures.index;
    handed_back = tt;
    absent = tt;
  },
)
