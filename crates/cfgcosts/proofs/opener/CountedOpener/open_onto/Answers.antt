use Rattle.std.proofs.Common.{arith}
use Rattle.std.proofs.lemmas.Grind.{common_steps}
use Rattle.cfgcosts.proofs.Counts.{counts_more}
use Rattle.cfgcosts.proofs.opener.CountedOpener.open_onto.Goals as goal

pub returns-clause-opened : goal.returns-clause-opened
returns-clause-opened g c = λ positions counts. counts_more _ _ _ _ _ _ _ positions c.open.follows.holds-at-none counts

pub returns-clause-symbols : goal.returns-clause-symbols
returns-clause-symbols g c = grind (arith, common_steps)

pub returns-clause-grammar : goal.returns-clause-grammar
returns-clause-grammar g c = grind (arith, common_steps)
