use Rattle.cfgnumbers.proofs.Valid.{numberable}
use Rattle.cfgnumbers.proofs.laws.sound_syntaxes_are_numberable.Goals as goal

pub returns : goal.returns
returns c = numberable
