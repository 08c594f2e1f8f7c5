use Rattle.std.proofs.Common.{[], string_bytes}
use Rattle.cfgrammar.specs.Table.{bit}
use Rattle.cfgtool.specs.FollowLines.{follow_line}
use Rattle.cfgtool.proofs.Written.{AreWritten}
use Rattle.cfgtool.proofs.follow_lines.follow_lines.Given as goal

abbrev pub invariant-loop-ridx : goal.invariant-loop-ridx
invariant-loop-ridx l = AreWritten (follow_line l.grammar (bit l.follows)) l.grammar.rules [] l.ridx-iterator (string_bytes l.lines)
