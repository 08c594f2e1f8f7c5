use Rattle.cfgwords.proofs.SectionFinders.{name_finder}
use Rattle.cfgwords.proofs.laws.section_names_found.Goals as goal

pub returns-clause-sound : goal.returns-clause-sound
returns-clause-sound c = name_finder.sound

pub returns-clause-only : goal.returns-clause-only
returns-clause-only c = name_finder.only
