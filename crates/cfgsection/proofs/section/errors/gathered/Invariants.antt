use Rattle.std.proofs.Common.{map, take}
use Rattle.cfgsection.specs.SectionReads.{entry_view}
use Rattle.cfgsection.proofs.SectionRepeats.{InOffsets}
use Rattle.cfgsection.proofs.section.errors.gathered.Given as goal

abbrev pub invariant-loop-entry : goal.invariant-loop-entry
invariant-loop-entry l = InOffsets (map entry_view (take l.entry-index l.entries)) l.offsets l.again.items
