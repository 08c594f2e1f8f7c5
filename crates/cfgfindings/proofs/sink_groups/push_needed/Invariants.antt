use Rattle.std.proofs.Common.{◌≡◌, map, take}
use Rattle.cfgrammar.specs.NumberedSymbols.{sym_of}
use Rattle.cfgfindings.specs.Inner.SinkGroups.{IsNeededIn, Puts}
use Rattle.cfgfindings.proofs.sink_groups.push_needed.Given as goal

abbrev pub invariant-loop-symbol : goal.invariant-loop-symbol
invariant-loop-symbol l = Puts (λ a b. (a ≡ l.rule) × IsNeededIn l.unproductive (map (sym_of (λ s. s)) (take l.symbol-index l.symbols)) b) l.fn.needs l.needs
