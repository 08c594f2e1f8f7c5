use Rattle.std.proofs.Common.{map, take}
use Rattle.cfgtables.specs.NumberedSymbols.{sym_of}
use Rattle.cfganalysis.specs.ProductiveRules.{AreProductiveSymbols}
use Rattle.cfganalysis.proofs.productive.are_productive.Given as goal

abbrev pub invariant-loop-symbol : goal.invariant-loop-symbol
invariant-loop-symbol g l = AreProductiveSymbols l.productive (take l.symbol-index (map (sym_of g.S.Storage.number) l.symbols))
