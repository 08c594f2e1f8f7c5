use Rattle.std.proofs.Common.{◌≡◌, Ok, ◌++◌}
use Rattle.cfgmarks.specs.Marks.{marks}
use Rattle.cfgmarks.proofs.MergeSteps.{MergedSoFar}
use Rattle.cfgmarks.proofs.StoredKeys.{StoredSoFar}
use Rattle.cfgmarks.proofs.markmap.MarkMap.merge_from.Given as goal

abbrev pub invariant-loop-key : goal.invariant-loop-key
invariant-loop-key g l = record {
  given : l.fn.other.contents.entries ≡ l.yielded ++ l.key-iterator;
  merged : MergedSoFar g.K.Ord.cmp g.met.K.Ord.total (λ u v. goal.F-post g l.fn.convert u (Ok v)) (marks l.fn.self) l.yielded (marks l.self);
  stored : StoredSoFar g.K.Ord.cmp g.met.K.Ord.total (marks l.fn.self) l.yielded (marks l.self);
}
