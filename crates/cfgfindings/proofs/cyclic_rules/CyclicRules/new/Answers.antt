use Rattle.cfgfindings.proofs.OwnCycles.{own_groups}
use Rattle.cfgfindings.proofs.cyclic_rules.CyclicRules.new.Goals as goal

pub invariant_of-result : goal.invariant_of-result
invariant_of-result c = own_groups c.args.grammar.now c.in_ok-steps.steps c.in_ok-steps.ensures c.in_ok-groups.groups.items c.in_ok-groups.ensures
