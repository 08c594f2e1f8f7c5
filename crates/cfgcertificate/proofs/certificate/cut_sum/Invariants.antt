use Rattle.std.proofs.Common.{map, drop}
use Rattle.std.specs.List.{slice_index}
use Rattle.cfgtables.specs.NumberedSymbols.{sym_of}
use Rattle.derivation.specs.Sums.{symbol_cost}
use Rattle.derivation.specs.CostLists.{rule_cost}
use Rattle.cfgleast.proofs.Cut.{SumSoFar}
use Rattle.cfgcertificate.proofs.certificate.cut_sum.Given as goal

abbrev pub invariant-loop-symbol : goal.invariant-loop-symbol
invariant-loop-symbol g l = SumSoFar (symbol_cost (slice_index l.costs) (rule_cost l.least)) (map (sym_of g.S.Storage.number) l.symbols)
    (map (sym_of g.S.Storage.number) (drop l.symbol-index l.symbols)) l.sum
