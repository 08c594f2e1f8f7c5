use Rattle.std.proofs.Common.{◌≡◌, ◌++◌, map}
use Rattle.cfgnumbers.specs.TablesView.{file_of}
use Rattle.cfgnumbers.proofs.RowLemmas.{implicit_row, name_seen}
use Rattle.cfgnumbers.proofs.numbering.Numbering.push_implicit.Given as goal

abbrev pub invariant-loop-name : goal.invariant-loop-name
invariant-loop-name g l =
    l.rows ≡ l.initial.rows ++ map (implicit_row (file_of l.self)) (map name_seen l.yielded)
