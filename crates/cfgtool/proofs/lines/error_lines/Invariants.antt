use Rattle.std.proofs.Common.{◌≡◌, take, string_bytes}
use Rattle.cfgtool.specs.ReportLines.{error_lines}
use Rattle.cfgtool.proofs.lines.error_lines.Given as goal

-- the lines of the errors so far
abbrev pub invariant-loop-error : goal.invariant-loop-error
invariant-loop-error l = string_bytes l.lines ≡ error_lines l.text (take l.error-index l.errors)
