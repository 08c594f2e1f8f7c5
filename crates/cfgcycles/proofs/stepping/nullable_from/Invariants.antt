use Rattle.std.proofs.Common.{ℕ, ◌≤◌, ◌↔◌, map}
use Rattle.cfgtables.specs.NumberedSymbols.{sym_of}
use Rattle.cfgcycles.specs.Inner.Putting.{AreNullableBetween}
use Rattle.cfgcycles.proofs.stepping.nullable_from.Given as goal

abbrev pub invariant-loop-index : goal.invariant-loop-index
invariant-loop-index g l =
    (index : ℕ) → (l.from ≤ index) ↔ AreNullableBetween l.firsts (map (sym_of g.S.Storage.number) l.symbols) index l.index
