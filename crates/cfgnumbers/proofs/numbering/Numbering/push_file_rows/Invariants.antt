use Rattle.std.proofs.Common.{◌≡◌, map}
use Rattle.cfgnumbers.specs.Numbered.{file_production}
use Rattle.cfgnumbers.specs.TablesView.{file_of, implicit_in}
use Rattle.cfgnumbers.proofs.RowLemmas.{production_seen}
use Rattle.cfgnumbers.proofs.numbering.Numbering.push_file_rows.Given as goal

abbrev pub invariant-loop-rule : goal.invariant-loop-rule
invariant-loop-rule g l =
    l.rows ≡ map (file_production (implicit_in l.self) (file_of l.self)) (map production_seen l.yielded)
