use Rattle.std.proofs.Common.{◌≡◌, length}
use Rattle.cfgmarks.specs.Marks.{held_among}
use Rattle.cfgmarks.proofs.markmap.iter.MarkMapIterRefIterator.next.Given as goal

abbrev pub invariant-loop-key : goal.invariant-loop-key
invariant-loop-key g l = held_among l.self-inside.entries ≡ held_among l.initial.self-inside.entries

abbrev pub decreases-loop-key : goal.decreases-loop-key
decreases-loop-key g l = length l.self-inside.entries
