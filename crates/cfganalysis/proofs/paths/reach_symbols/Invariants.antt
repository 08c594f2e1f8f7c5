use Rattle.std.proofs.Common.{◌≡◌, take}
use Rattle.derivation.specs.Grammar.{Rule}
use Rattle.search.specs.Reachable.{FoundBy, Reaches}
use Rattle.cfgtables.specs.NumberedSymbols.{sym_of}
use Rattle.cfganalysis.proofs.paths.reach_symbols.Given as goal

abbrev pub invariant-loop-symbol : goal.invariant-loop-symbol
invariant-loop-symbol g l = Reaches (FoundBy (λ s r. Rule r ≡ sym_of g.S.Storage.number s) (take l.symbol-index l.symbols)) l.fn.search l.search
