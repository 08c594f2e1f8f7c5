use Rattle.std.proofs.Common.{◌≡◌, take}
use Rattle.cfglint.specs.ReportedFindings.{reported_by}
use Rattle.cfglint.proofs.reported.reported_findings.Given as goal

-- those of the findings so far
abbrev pub invariant-loop-finding : goal.invariant-loop-finding
invariant-loop-finding l = l.reported.items ≡ reported_by l.text l.levels (take l.finding-index l.findings)
