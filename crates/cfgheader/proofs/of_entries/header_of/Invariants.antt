use Rattle.std.proofs.Common.{map}
use Rattle.cfgsection.specs.SectionReads.{entry_view}
use Rattle.cfgheader.specs.Headers.{IsHeaderOf}
use Rattle.cfgheader.proofs.of_entries.header_of.Given as goal

abbrev pub invariant-loop-entry : goal.invariant-loop-entry
invariant-loop-entry l = IsHeaderOf (map entry_view l.yielded) l.header
