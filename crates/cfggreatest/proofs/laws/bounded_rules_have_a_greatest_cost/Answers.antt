use Rattle.cfggreatest.proofs.Bounded.{greatest_exists}
use Rattle.cfggreatest.proofs.laws.bounded_rules_have_a_greatest_cost.Goals as goal

pub returns : goal.returns
returns c = λ g cost r n w is bound s. greatest_exists g cost r n bound is w s
