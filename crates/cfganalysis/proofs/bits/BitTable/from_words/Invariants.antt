use Rattle.std.proofs.Common.{◌≡◌, take}
use Rattle.cfganalysis.proofs.bits.BitTable.from_words.Given as goal

abbrev pub invariant-loop-row : goal.invariant-loop-row
invariant-loop-row l = l.rows.items ≡ take l.row l.table.rows
