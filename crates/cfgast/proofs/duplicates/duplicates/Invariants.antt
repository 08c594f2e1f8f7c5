use Rattle.std.proofs.Common.{◌≡◌, map, take}
use Rattle.cfgitems.specs.SyntaxView.{occurrence_view}
use Rattle.cfgast.specs.TreeView.{duplicate_view}
use Rattle.cfgast.proofs.Gathered.{located}
use Rattle.cfgast.proofs.Repeats.{repeats}
use Rattle.cfgast.proofs.duplicates.duplicates.Given as goal

abbrev pub invariant-loop-occurrence : goal.invariant-loop-occurrence
invariant-loop-occurrence l =
    map duplicate_view l.found.entries
    ≡ map (located (map occurrence_view (take l.occurrence-index l.occurrences))) (repeats (map occurrence_view l.occurrences))
