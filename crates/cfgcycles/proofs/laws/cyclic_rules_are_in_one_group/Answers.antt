use Rattle.cfgcycles.proofs.OneGroup.{one_group}
use Rattle.cfgcycles.proofs.laws.cyclic_rules_are_in_one_group.Goals as goal

pub returns : goal.returns
returns c = λ steps groups rule are. one_group steps groups are rule
