use Rattle.derivation.specs.Grammar.{HasProduction}
use Rattle.derivation.proofs.Trees.{trees_from_derivation, derivation_from_trees}
use Rattle.derivation.proofs.trees_are_derivations.Goals as goal

pub returns : goal.returns
returns c = λ g a w. (trees_from_derivation (HasProduction g) a w, derivation_from_trees (HasProduction g))
