use Rattle.derivation.specs.Grammar.{HasProduction}
use Rattle.derivation.proofs.Costs.{minimal_costs_least, minimal_if_least, least_is_one}
use Rattle.derivation.proofs.minimal_sentences_cost_the_least.Goals as goal

pub returns-clause-least : goal.returns-clause-least
returns-clause-least c = λ g. minimal_costs_least (HasProduction g)

pub returns-clause-minimal : goal.returns-clause-minimal
returns-clause-minimal c = λ g. minimal_if_least (HasProduction g)

pub returns-clause-one : goal.returns-clause-one
returns-clause-one c = λ g. least_is_one (HasProduction g)
