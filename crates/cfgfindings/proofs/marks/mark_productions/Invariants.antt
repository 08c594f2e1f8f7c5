use Rattle.std.proofs.Common.{take}
use Rattle.std.specs.List.{flat_map}
use Rattle.cfgrammar.specs.SyntaxView.{production_view}
use Rattle.cfgrammar.specs.TreeView.{syntax}
use Rattle.cfgfindings.specs.Inner.Marks.{Marks, names_by, table_keys}
use Rattle.cfgfindings.proofs.marks.mark_productions.Given as goal

abbrev pub invariant-loop-production : goal.invariant-loop-production
invariant-loop-production l =
    Marks (table_keys l.table (syntax l.ast)) (flat_map (λ production. names_by l.table (production_view production)) (take l.production-index l.production-items)) l.fn.marks l.marks
