use Rattle.derivation.specs.Grammar.{HasProduction}
use Rattle.derivation.proofs.Cycles.{useful_on_the_way, growing_cycle_of}
use Rattle.derivation.proofs.derivations_show_cycles.Goals as goal

pub returns-clause-useful : goal.returns-clause-useful
returns-clause-useful c = λ g. useful_on_the_way (HasProduction g)

pub returns-clause-grows : goal.returns-clause-grows
returns-clause-grows c = λ g. growing_cycle_of (HasProduction g)
