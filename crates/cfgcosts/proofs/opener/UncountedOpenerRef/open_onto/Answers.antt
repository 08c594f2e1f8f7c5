use Rattle.std.proofs.Common.{arith}
use Rattle.std.proofs.lemmas.Grind.{common_steps}
use Rattle.cfgcosts.proofs.opener.UncountedOpenerRef.open_onto.Goals as goal

pub returns-clause-symbols : goal.returns-clause-symbols
returns-clause-symbols g c = grind (arith, common_steps)

pub prod-requires : goal.prod-requires
prod-requires g c = c.requires
