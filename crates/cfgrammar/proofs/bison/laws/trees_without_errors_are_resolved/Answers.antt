use Rattle.cfgrammar.proofs.BisonResolved.{tree_is_resolved, tree_is_well_formed}
use Rattle.cfgrammar.proofs.bison.laws.trees_without_errors_are_resolved.Goals as goal

pub returns-clause-well_formed : goal.returns-clause-well_formed
returns-clause-well_formed c = tree_is_well_formed

pub returns-clause-resolved : goal.returns-clause-resolved
returns-clause-resolved c = tree_is_resolved
