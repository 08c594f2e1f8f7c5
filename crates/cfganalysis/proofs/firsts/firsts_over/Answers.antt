use Rattle.cfganalysis.proofs.firsts.firsts_over.Goals as goal

pub returns-clause-few : goal.returns-clause-few
returns-clause-few g c = c.grow_all.ensures.few
