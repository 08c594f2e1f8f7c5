use Rattle.std.proofs.Common.{map, take}
use Rattle.cfgrammar.specs.Firsts.{AreFirsts}
use Rattle.cfgrammar.specs.Grammar.{Grammar}
use Rattle.cfgrammar.specs.NumberedSymbols.{sym_of}
use Rattle.lr_states.specs.Inner.Edges.{IsNullableFrom}
use Rattle.lr_states.proofs.lookaheads.nullable.nullable_suffix.Given as goal

-- of the symbols so far, those from the index on are nullable
abbrev pub invariant-loop-index : goal.invariant-loop-index
invariant-loop-index l = (g : Grammar) → AreFirsts g l.firsts → IsNullableFrom g (map (sym_of (λ s. s)) (take l.index l.symbols)) l.from
