use Rattle.cfgsection.proofs.SectionOffsets.{errors_are_some, errors_at_offsets}
use Rattle.cfgsection.proofs.section.laws.section_errors_are_at_offsets.Goals as goal

pub returns-clause-some : goal.returns-clause-some
returns-clause-some c = errors_are_some

pub returns-clause-offsets : goal.returns-clause-offsets
returns-clause-offsets c = errors_at_offsets
