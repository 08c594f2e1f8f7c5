use Rattle.std.proofs.Common.{map, take}
use Rattle.std.specs.List.{slice_index}
use Rattle.cfgtables.specs.NumberedSymbols.{sym_of}
use Rattle.derivation.specs.CostLists.{rule_cost}
use Rattle.cfgleast.specs.CutSums.{IsCutSum}
use Rattle.cfgleast.proofs.walk.walk.Given as goal

abbrev pub invariant-loop-index : goal.invariant-loop-index
invariant-loop-index g l = IsCutSum (slice_index l.costs) (rule_cost l.least) (take l.index (map (sym_of g.S.Storage.number) l.symbols)) l.sum
