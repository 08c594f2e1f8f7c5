use Rattle.std.proofs.Common.{[], ◌∷◌, subst, sym}
use Rattle.std.proofs.lemmas.List.{map-append}
use Rattle.cfgsection.specs.SectionReads.{entry_view}
use Rattle.cfgheader.specs.Headers.{IsHeaderOf}
use Rattle.cfgheader.proofs.SectionHeader.{header_start, header_on}
use Rattle.cfgheader.proofs.of_entries.header_of.Goals as goal

pub loop-entry-init : goal.loop-entry-init
loop-entry-init c = header_start c.new-header.result c.new-header.ensures

pub loop-entry-preserved : goal.loop-entry-preserved
loop-entry-preserved c =
    subst (λ es. IsHeaderOf es c.put.new.header) (sym (map-append entry_view c.loop-entry.yielded (c.in-Some.entry ∷ [])))
    (header_on _ c.loop-entry.header c.put.new.header c.in-Some.entry c.loop-entry.invariant c.in_ok-put.ensures)
