use Rattle.std.proofs.Common.{◌≡◌, map}
use Rattle.cfgnumbers.specs.Numbered.{file_token}
use Rattle.cfgnumbers.specs.TablesView.{file_of, token_view}
use Rattle.cfgnumbers.proofs.RowLemmas.{token_seen}
use Rattle.cfgnumbers.proofs.numbering.Numbering.token_rows.Given as goal

abbrev pub invariant-loop-name : goal.invariant-loop-name
invariant-loop-name l = map token_view l.rows.entries ≡ map (file_token (file_of l.self)) (map token_seen l.yielded)
