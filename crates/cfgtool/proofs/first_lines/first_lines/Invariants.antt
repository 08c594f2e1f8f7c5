use Rattle.std.proofs.Common.{[], string_bytes}
use Rattle.cfgrammar.specs.Firsts.{nullable_bit}
use Rattle.cfgrammar.specs.Table.{bit}
use Rattle.cfgtool.specs.FirstLines.{first_line}
use Rattle.cfgtool.proofs.Written.{AreWritten}
use Rattle.cfgtool.proofs.first_lines.first_lines.Given as goal

abbrev pub invariant-loop-ridx : goal.invariant-loop-ridx
invariant-loop-ridx l = AreWritten (first_line l.grammar (bit l.firsts.firsts) (nullable_bit l.firsts)) l.grammar.rules [] l.ridx-iterator (string_bytes l.lines)
