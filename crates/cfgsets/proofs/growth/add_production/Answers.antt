use Rattle.cfgsets.proofs.Queueing.{takes_into}
use Rattle.cfgsets.proofs.growth.add_production.Goals as goal

pub returns-clause-takes : goal.returns-clause-takes
returns-clause-takes g c = takes_into _ _ _ _ _ _ _ _ _ _ _ _ c.visit.ensures.takes c.let_dependents_wait.ensures.waiting
