use Rattle.std.proofs.Common.{[], string_bytes}
use Rattle.cfgtool.specs.ReportLines.{production_line}
use Rattle.cfgtool.proofs.Written.{AreWritten}
use Rattle.cfgtool.proofs.lines.production_lines.Given as goal

abbrev pub invariant-loop-pidx : goal.invariant-loop-pidx
invariant-loop-pidx l = AreWritten (production_line l.grammar) l.grammar.productions [] l.pidx-iterator (string_bytes l.lines)
