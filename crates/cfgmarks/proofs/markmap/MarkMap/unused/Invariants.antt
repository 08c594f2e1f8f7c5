use Rattle.std.proofs.Common.{◌≡◌, ◌++◌, map}
use Rattle.std.specs.List.{AllZip, filter_map}
use Rattle.std.specs.Map.Iter.{deref_pair}
use Rattle.cfgmarks.specs.Marks.{unused_key}
use Rattle.cfgmarks.proofs.markmap.MarkMap.unused.Given as goal

abbrev pub invariant-loop-key : goal.invariant-loop-key
invariant-loop-key g l = record {
  given : l.self.contents.entries ≡ map deref_pair l.yielded ++ l.key-iterator;
  kept : AllZip g.K.Clone.is_clone (filter_map unused_key (map deref_pair l.yielded)) l.keys.items;
}
