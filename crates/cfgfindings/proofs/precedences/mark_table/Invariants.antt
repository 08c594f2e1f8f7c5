use Rattle.std.proofs.Common.{[], ◌∷◌, take}
use Rattle.std.specs.List.{flat_map}
use Rattle.cfgrammar.specs.Syntax.{entry_name}
use Rattle.cfgrammar.specs.SyntaxView.{span_entry}
use Rattle.cfgrammar.specs.TreeView.{syntax}
use Rattle.cfgfindings.specs.Inner.Marks.{Marks, precedence_keys}
use Rattle.cfgfindings.proofs.precedences.mark_table.Given as goal

abbrev pub invariant-loop-index : goal.invariant-loop-index
invariant-loop-index l = Marks (precedence_keys (syntax l.ast)) (flat_map (λ entry. entry_name (span_entry entry) ∷ []) (take l.index l.table.entries)) l.fn.used l.used
