use Rattle.cfgwords.proofs.Finders.{identifier_finder}
use Rattle.cfgwords.proofs.laws.identifiers_found.Goals as goal

pub returns-clause-sound : goal.returns-clause-sound
returns-clause-sound c = identifier_finder.sound
