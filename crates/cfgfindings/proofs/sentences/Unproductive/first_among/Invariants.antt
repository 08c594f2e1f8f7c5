use Rattle.std.proofs.Common.{ℕ, Contains, false, map, take}
use Rattle.cfgrammar.specs.Grammar.{Rule}
use Rattle.cfgrammar.specs.NumberedSymbols.{sym_of}
use Rattle.cfgfindings.specs.Inner.Unproductive.{UnproductiveOrNot}
use Rattle.cfgfindings.proofs.sentences.Unproductive.first_among.Given as goal

-- each rule among the symbols so far is productive
abbrev pub invariant-loop-symbol : goal.invariant-loop-symbol
invariant-loop-symbol l = (q : ℕ) → Contains (map (sym_of (λ s. s)) (take l.symbol-index l.symbols)) (Rule q) → UnproductiveOrNot l.self q false
