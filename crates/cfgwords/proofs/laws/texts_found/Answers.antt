use Rattle.cfgwords.proofs.SectionFinders.{text_finder}
use Rattle.cfgwords.proofs.laws.texts_found.Goals as goal

pub returns-clause-sound : goal.returns-clause-sound
returns-clause-sound c = text_finder.sound

pub returns-clause-only : goal.returns-clause-only
returns-clause-only c = text_finder.only
