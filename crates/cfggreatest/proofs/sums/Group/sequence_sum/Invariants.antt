use Rattle.std.proofs.Common.{◌≤◌, map, take}
use Rattle.std.specs.List.{slice_index}
use Rattle.cfgtables.specs.NumberedSymbols.{sym_of}
use Rattle.cfggreatest.specs.Inner.Sums.{IsSum, known_in}
use Rattle.cfggreatest.proofs.sums.Group.sequence_sum.Given as goal

abbrev pub invariant-loop-symbol : goal.invariant-loop-symbol
invariant-loop-symbol g l = record {
  few : l.inner ≤ l.symbol-index;
  sum : IsSum (slice_index l.self.costs.now) (known_in l.self) (take l.symbol-index (map (sym_of g.S.Storage.number) l.symbols)) l.outer l.inner;
}
