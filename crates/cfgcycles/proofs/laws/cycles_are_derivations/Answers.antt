use Rattle.cfgcycles.proofs.Paths.{derivation_of_cycle, cycle_of_derivation}
use Rattle.cfgcycles.proofs.laws.cycles_are_derivations.Goals as goal

pub returns : goal.returns
returns c = λ g r. (cycle_of_derivation g r, derivation_of_cycle g r)
