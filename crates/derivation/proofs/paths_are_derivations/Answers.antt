use Rattle.derivation.specs.Grammar.{HasProduction}
use Rattle.derivation.proofs.Paths.{derives_along, path_to_derived}
use Rattle.derivation.proofs.paths_are_derivations.Goals as goal

pub returns : goal.returns
returns c = λ g a b. (derives_along (HasProduction g), path_to_derived (HasProduction g))
