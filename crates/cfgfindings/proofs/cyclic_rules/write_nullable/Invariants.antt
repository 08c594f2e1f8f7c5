use Rattle.std.proofs.Common.{◌≡◌, ◌++◌, map, take, string_bytes}
use Rattle.cfgrammar.specs.NumberedSymbols.{sym_of}
use Rattle.cfgfindings.specs.Shown.{nullable}
use Rattle.cfgfindings.proofs.cyclic_rules.write_nullable.Given as goal

-- the symbols so far are written
abbrev pub invariant-loop-symbol : goal.invariant-loop-symbol
invariant-loop-symbol l = string_bytes l.text ≡ string_bytes l.initial.text ++ nullable l.grammar (map (sym_of (λ s. s)) (take l.symbol-index l.symbols))
