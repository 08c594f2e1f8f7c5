use Rattle.std.proofs.Common.{◌≡◌, ◌++◌, map, take, string_bytes}
use Rattle.cfgrammar.specs.NumberedSymbols.{sym_of}
use Rattle.bison_findings.specs.Shown.{symbols_text}
use Rattle.bison_findings.proofs.symbols.write_symbols.Given as goal

-- the symbols so far are written
abbrev pub invariant-loop-symbol : goal.invariant-loop-symbol
invariant-loop-symbol l = string_bytes l.text ≡ string_bytes l.initial.text ++ symbols_text l.grammar (map (sym_of (λ s. s)) (take l.symbol-index l.symbols))
