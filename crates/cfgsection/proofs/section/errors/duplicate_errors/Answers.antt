use Rattle.std.proofs.Common.{map}
use Rattle.cfgsection.specs.SectionReads.{entry_view}
use Rattle.cfgsection.proofs.SectionRepeats.{all_errors_of}
use Rattle.cfgsection.proofs.section.errors.duplicate_errors.Goals as goal

pub returns : goal.returns
returns c = all_errors_of (map entry_view c.args.entries.now) c.in_ok-offsets.offsets c.in_ok-offsets.again.items c.in_ok-offsets.ensures.offsets c.in_ok-offsets.ensures.again c.errors_at.result c.errors_at.ensures
