use Rattle.cfgcycles.proofs.Paths.{derivation_of_path, path_of_derivation}
use Rattle.cfgcycles.proofs.laws.unit_steps_are_derivations.Goals as goal

pub returns : goal.returns
returns c = λ g a b. (derivation_of_path g a b, path_of_derivation g a b)
