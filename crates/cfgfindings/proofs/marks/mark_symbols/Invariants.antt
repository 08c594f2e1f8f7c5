use Rattle.std.proofs.Common.{take}
use Rattle.std.specs.List.{flat_map}
use Rattle.cfgrammar.specs.SyntaxView.{symbol_view}
use Rattle.cfgrammar.specs.TreeView.{syntax}
use Rattle.cfgfindings.specs.Inner.Marks.{Marks, symbol_names, table_keys}
use Rattle.cfgfindings.proofs.marks.mark_symbols.Given as goal

abbrev pub invariant-loop-symbol : goal.invariant-loop-symbol
invariant-loop-symbol l = Marks (table_keys l.table (syntax l.ast)) (flat_map (λ symbol. symbol_names l.rules (symbol_view symbol)) (take l.symbol-index l.symbols)) l.fn.marks l.marks
