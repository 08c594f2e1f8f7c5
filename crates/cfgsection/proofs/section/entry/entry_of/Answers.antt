use Rattle.std.proofs.Common.{ap, sym, ◌∙◌}
use Rattle.std.specs.Str.{bytes_eq}
use Rattle.cfgsection.proofs.Given.{gives, none_found, one_more_found}
use Rattle.cfgsection.proofs.SectionRepeats.{entries_more}
use Rattle.cfgsection.proofs.section.entry.entry_of.Goals as goal
use Rattle.cfgsection.proofs.section.entry.entry_of.Goals.{then-eq, else-eq}

pub loop-entry-init : goal.loop-entry-init
loop-entry-init c = none_found c.args.entries.now c.args.key.now

pub loop-entry-preserved : goal.loop-entry-preserved
loop-entry-preserved c =
    let more = entries_more c.args.entries.now c.loop-entry.entry-index c.entry-item.result c.loop-entry-test.true c.entry-item.is in
    let reported = ap (λ text. bytes_eq text c.args.key.now) (sym c.as_str.ensures.value) ∙ sym c.eq.ensures in
    elim c.if-eq.branch [
      | then-eq w ↦ one_more_found c.args.entries.now c.loop-entry.entry-index c.entry-item.result c.args.key.now more c.loop-entry.found _ _ c.loop-entry.invariant (reported ∙ w.if-eq.true) (ap gives w.found-is)
      | else-eq w ↦ one_more_found c.args.entries.now c.loop-entry.entry-index c.entry-item.result c.args.key.now more c.loop-entry.found _ _ c.loop-entry.invariant (reported ∙ w.if-eq.false) (ap gives w.found-is)
    ]
