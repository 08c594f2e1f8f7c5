use Rattle.derivation.specs.Grammar.{HasProduction}
use Rattle.derivation.proofs.Firsts.{derived_closed}
use Rattle.derivation.proofs.first_is_closed.Goals as goal

pub returns : goal.returns
returns c = λ g. derived_closed (HasProduction g)
