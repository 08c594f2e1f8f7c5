use Rattle.std.proofs.Common.{rules}
use Rattle.cfglines.proofs.LineEnds.{line_start-le}
use Rattle.cfglines.proofs.LinePrefixes.{line_begins}
use Rattle.cfgrender.proofs.LineStops.{line_stop_ends}
use Rattle.cfgrender.proofs.excerpt.line_bytes.Goals as goal

pub returns-clause-ordered : goal.returns-clause-ordered
returns-clause-ordered c = search (rules, line_stop_ends)

pub returns-clause-begins : goal.returns-clause-begins
returns-clause-begins c = search (rules, line_begins)

pub returns-clause-ends : goal.returns-clause-ends
returns-clause-ends c = search (rules, line_stop_ends)

pub returns-clause-before : goal.returns-clause-before
returns-clause-before c = search (rules, line_start-le)
