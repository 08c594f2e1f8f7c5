use Rattle.derivation.specs.Grammar.{HasProduction}
use Rattle.cfggreatest.proofs.AtLeast.{unbounded_set}
use Rattle.cfggreatest.proofs.laws.sets_that_grow_are_unbounded.Goals as goal

pub returns : goal.returns
returns c = λ g cost. unbounded_set (HasProduction g) cost
