use Rattle.std.proofs.Common.{◌≡◌, ◌++◌, List}
use Rattle.text_findings.specs.Reports.{ReportsBelow}
use Rattle.text_findings.specs.Finding.{ShownFinding}
use Rattle.text_findings.proofs.reporter.push_reported.Given as goal

-- the findings for the things so far come after the earlier findings
abbrev pub invariant-loop-number : goal.invariant-loop-number
invariant-loop-number g l = (reported : List ShownFinding) × ReportsBelow (g.T.Reporter.reports l.reporter) l.number reported × (l.all.items ≡ l.initial.all.items ++ reported)
