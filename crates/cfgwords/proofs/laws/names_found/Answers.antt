use Rattle.cfgwords.proofs.Finders.{name_finder}
use Rattle.cfgwords.proofs.laws.names_found.Goals as goal

pub returns-clause-sound : goal.returns-clause-sound
returns-clause-sound c = name_finder.sound
