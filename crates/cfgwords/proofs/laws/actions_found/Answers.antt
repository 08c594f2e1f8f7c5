use Rattle.cfgwords.proofs.Finders.{action_finder}
use Rattle.cfgwords.proofs.laws.actions_found.Goals as goal

pub returns-clause-sound : goal.returns-clause-sound
returns-clause-sound c = action_finder.sound

pub returns-clause-only : goal.returns-clause-only
returns-clause-only c = action_finder.only
