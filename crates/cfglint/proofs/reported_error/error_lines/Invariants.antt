use Rattle.std.proofs.Common.{◌≡◌, string_bytes, take}
use Rattle.cfglint.specs.ReportedErrors.{error_lines}
use Rattle.cfglint.proofs.reported_error.error_lines.Given as goal

-- the lines for the errors so far
abbrev pub invariant-loop-error : goal.invariant-loop-error
invariant-loop-error l = string_bytes l.lines ≡ error_lines l.fn.unit l.fn.colors l.name l.text (take l.error-index l.errors)
