use Rattle.std.proofs.Common.{true, refl}
use Rattle.cfgmarks.specs.Marks.{marks, set_value}
use Rattle.cfgmarks.proofs.MarkEntries.{held_through}
use Rattle.cfgmarks.proofs.markmap.entry.OccupiedEntry.insert.Goals as goal

pub invariant_of-self : goal.invariant_of-self
invariant_of-self g c = record {
  held =
      held_through g.K.Ord.cmp g.met.K.Ord.total (marks c.args.self.now.map.now) (marks c.replace_value.new.self) c.args.self.now.key (set_value c.args.value) true
      c.replace_value.ensures.map (λ x held. refl) c.args.self.now.held;
}
