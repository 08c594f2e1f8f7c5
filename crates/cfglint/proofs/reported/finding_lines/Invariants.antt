use Rattle.std.proofs.Common.{◌≡◌, string_bytes, take}
use Rattle.cfglint.specs.ReportedFindings.{finding_lines}
use Rattle.cfglint.proofs.reported.finding_lines.Given as goal

-- the lines for the findings so far
abbrev pub invariant-loop-finding : goal.invariant-loop-finding
invariant-loop-finding l = string_bytes l.lines ≡ finding_lines l.fn.unit l.fn.colors l.name l.text (take l.finding-index l.findings)
