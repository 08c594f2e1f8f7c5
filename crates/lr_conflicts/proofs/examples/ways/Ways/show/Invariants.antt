use Rattle.std.proofs.Common.{Some, map, take}
use Rattle.cfgrammar.specs.NumberedSymbols.{sym_of}
use Rattle.lr_conflicts.specs.Inner.Searches.{setting}
use Rattle.lr_conflicts.specs.Inner.Ways.{Finds, IsNullable}
use Rattle.lr_conflicts.proofs.Showing.{Below}
use Rattle.lr_conflicts.proofs.examples.ways.Ways.show.Given as goal

-- the symbols so far are nullable, and what they show is found
abbrev pub invariant-loop-index : goal.invariant-loop-index
invariant-loop-index l = record {
  found : Finds (setting l.self) (Some l.from) (Below (setting l.self) l.place l.rule (map (sym_of (λ s. s)) l.symbols) l.index)
      l.fn.found.entries l.found.entries;
  nullable : IsNullable (setting l.self) (take l.index (map (sym_of (λ s. s)) l.symbols));
}
