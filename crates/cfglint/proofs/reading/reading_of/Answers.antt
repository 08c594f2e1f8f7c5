use Rattle.std.proofs.Common.{rules}
use Rattle.cfglint.specs.Readings.{IsReadAsYacc}
use Rattle.cfglint.proofs.reading.reading_of.Goals as goal

pub returns-in-Some-Named-Yacc : goal.returns-in-Some-Named-Yacc
returns-in-Some-Named-Yacc c = IsReadAsYacc.requested {kind = c.in-Some-Named-Yacc.kind} (search rules)

pub returns-in-Some-Section : goal.returns-in-Some-Section
returns-in-Some-Section c = IsReadAsYacc.by_section (search rules)
