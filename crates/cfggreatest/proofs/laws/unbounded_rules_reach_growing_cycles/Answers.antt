use Rattle.cfggreatest.proofs.Growing.{unbounded_if_reaches}
use Rattle.cfggreatest.proofs.laws.unbounded_rules_reach_growing_cycles.Goals as goal

pub returns : goal.returns
returns c = λ g cost r is. unbounded_if_reaches g cost is r
