use Rattle.derivation.specs.Grammar.{HasProduction}
use Rattle.derivation.proofs.Costs.{greatest_is_bound, greatest_is_one, least_up_to_greatest}
use Rattle.derivation.proofs.a_greatest_cost_bounds.Goals as goal

pub returns-clause-bounded : goal.returns-clause-bounded
returns-clause-bounded c = λ g. greatest_is_bound (HasProduction g)

pub returns-clause-one : goal.returns-clause-one
returns-clause-one c = λ g. greatest_is_one (HasProduction g)

pub returns-clause-above : goal.returns-clause-above
returns-clause-above c = λ g. least_up_to_greatest (HasProduction g)
