use Rattle.derivation.specs.Grammar.{HasProduction}
use Rattle.derivation.proofs.Cycles.{cycle_unbounds}
use Rattle.derivation.proofs.growing_cycles_are_unbounded.Goals as goal

pub returns : goal.returns
returns c = λ g. cycle_unbounds (HasProduction g)
