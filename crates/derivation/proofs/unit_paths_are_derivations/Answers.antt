use Rattle.derivation.specs.Grammar.{HasProduction}
use Rattle.derivation.proofs.UnitPaths.{unit_along, path_of_units}
use Rattle.derivation.proofs.unit_paths_are_derivations.Goals as goal

pub returns : goal.returns
returns c = λ g a b. (unit_along (HasProduction g), path_of_units (HasProduction g))
