use Rattle.std.proofs.Common.{map, drop}
use Rattle.cfgrammar.specs.Firsts.{IsAmongFirsts, IsNullableRule}
use Rattle.cfgrammar.specs.NumberedSymbols.{sym_of}
use Rattle.cfgrammar.specs.Table.{HasBit}
use Rattle.generator_tools.proofs.Used.{Continues}
use Rattle.generator_tools.proofs.ll1.is_used_by_sets.Given as goal

-- whether the production is used depends only on the symbols that are left
abbrev pub invariant-loop-symbol : goal.invariant-loop-symbol
invariant-loop-symbol g l =
    Continues (IsNullableRule l.firsts) (IsAmongFirsts l.firsts) (HasBit l.follows) (g.S.Storage.number l.rule.0) (g.S.Storage.number l.token.0)
    (map (sym_of g.S.Storage.number) l.symbols) (map (sym_of g.S.Storage.number) (drop l.symbol-index l.symbols))
