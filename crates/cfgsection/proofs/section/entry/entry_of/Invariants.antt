use Rattle.std.proofs.Common.{◌≡◌, map, take}
use Rattle.cfgsection.specs.SectionReads.{entry_view, given}
use Rattle.cfgsection.proofs.Given.{gives}
use Rattle.cfgsection.proofs.section.entry.entry_of.Given as goal

abbrev pub invariant-loop-entry : goal.invariant-loop-entry
invariant-loop-entry l = gives l.found ≡ given (map entry_view (take l.entry-index l.entries)) l.key
