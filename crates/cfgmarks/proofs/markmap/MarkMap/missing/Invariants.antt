use Rattle.std.proofs.Common.{◌≡◌, ◌++◌, map}
use Rattle.std.specs.List.{filter_map}
use Rattle.std.specs.Map.Iter.{deref_pair}
use Rattle.cfgmarks.specs.Marks.{missing_key}
use Rattle.cfgmarks.proofs.markmap.MarkMap.missing.Given as goal

abbrev pub invariant-loop-key : goal.invariant-loop-key
invariant-loop-key g l = record {
  given : l.self.contents.entries ≡ map deref_pair l.yielded ++ l.key-iterator;
  kept : map (λ key. key.now) l.keys.items ≡ filter_map missing_key (map deref_pair l.yielded);
}
