use Rattle.std.proofs.Common.{ap}
use Rattle.cfgtables.specs.NumberedSymbols.{sym_of}
use Rattle.cfgsets.proofs.Noting.{rule_noted}
use Rattle.cfganalysis.proofs.firsts.note_symbol.Goals as goal

pub returns-in-Rule : goal.returns-in-Rule
returns-in-Rule g c = rule_noted _ _ _ _ _ _ _ c.from.ensures (ap (sym_of g.S.Storage.number) c.in-Rule.is) c.note.ensures
