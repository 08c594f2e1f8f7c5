use Rattle.std.proofs.Common.{map}
use Rattle.cfgtables.specs.NumberedSymbols.{sym_of}
use Rattle.cfganalysis.proofs.FirstVisits.{Visits}
use Rattle.cfganalysis.proofs.firsts.GrowingFirsts.add_production.Given as goal

abbrev pub invariant-loop-symbol : goal.invariant-loop-symbol
invariant-loop-symbol g l = Visits (g.S.Storage.number l.rule.0) (map (sym_of g.S.Storage.number) l.symbols) l.symbol-index l.fn.self l.self l.changed
