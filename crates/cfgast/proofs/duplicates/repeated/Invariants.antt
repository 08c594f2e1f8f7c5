use Rattle.std.proofs.Common.{map, take}
use Rattle.cfgitems.specs.SyntaxView.{occurrence_view}
use Rattle.cfgast.proofs.Repeats.{InRepeats}
use Rattle.cfgast.proofs.duplicates.repeated.Given as goal

abbrev pub invariant-loop-occurrence : goal.invariant-loop-occurrence
invariant-loop-occurrence l = InRepeats (map occurrence_view (take l.occurrence-index l.occurrences)) l.declared.keys l.again.entries
