use Rattle.std.proofs.Common.{take}
use Rattle.search.specs.Reachable.{FoundBy, Reaches}
use Rattle.cfgrammar.specs.NumberedSymbols.{sym_of}
use Rattle.cfgfindings.specs.Inner.Reached.{IsNodeOf}
use Rattle.cfgfindings.proofs.useless.reach_symbols.Given as goal

-- the symbols so far are reached
abbrev pub invariant-loop-symbol : goal.invariant-loop-symbol
invariant-loop-symbol l = Reaches (FoundBy (λ symbol. IsNodeOf l.grammar (sym_of (λ s. s) symbol)) (take l.symbol-index l.symbols)) l.fn.search l.search
