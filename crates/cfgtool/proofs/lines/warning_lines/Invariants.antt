use Rattle.std.proofs.Common.{◌≡◌, take, string_bytes}
use Rattle.cfgtool.specs.ReportLines.{warning_lines}
use Rattle.cfgtool.proofs.lines.warning_lines.Given as goal

-- the lines of the warnings so far
abbrev pub invariant-loop-warning : goal.invariant-loop-warning
invariant-loop-warning l = string_bytes l.lines ≡ warning_lines l.text (take l.warning-index l.warnings)
