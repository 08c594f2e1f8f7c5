use Rattle.std.proofs.Common.{arith}
use Rattle.std.proofs.lemmas.Grind.{common_steps}
use Rattle.cfgcertificate.proofs.certificate.is_covered.Goals as goal

pub returns-in-Some-Some-clause-exact : goal.returns-in-Some-Some-clause-exact
returns-in-Some-Some-clause-exact g c = grind (arith, common_steps)

pub returns-in-Some-Some-clause-range : goal.returns-in-Some-Some-clause-range
returns-in-Some-Some-clause-range g c = grind (arith, common_steps)

pub returns-in-Some-None-clause-exact : goal.returns-in-Some-None-clause-exact
returns-in-Some-None-clause-exact g c = grind (arith, common_steps)

pub returns-in-Some-None-clause-range : goal.returns-in-Some-None-clause-range
returns-in-Some-None-clause-range g c = grind (arith, common_steps)
