use Rattle.std.proofs.Common.{map}
use Rattle.cfgtables.specs.NumberedSymbols.{sym_of}
use Rattle.cfgsets.proofs.Noting.{NotesLookahead}
use Rattle.cfganalysis.proofs.firsts.note_rules.Given as goal

abbrev pub invariant-loop-held : goal.invariant-loop-held
invariant-loop-held g l = NotesLookahead l.production (map (sym_of g.S.Storage.number) l.symbols) l.held-index l.fn.dependents l.dependents
