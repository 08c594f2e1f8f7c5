use Rattle.std.proofs.Common.{length, subst}
use Rattle.cfgfindings.specs.Inner.SinkGroups.{AreFirsts}
use Rattle.cfgfindings.proofs.SinkGroups.{are_sinks}
use Rattle.cfgfindings.proofs.sink_groups.SinkGroups.new.Goals as goal

pub invariant_of-result : goal.invariant_of-result
invariant_of-result c =
    let needs = c.in_ok-needs.needs in
    are_sinks c.args.unproductive.now needs c.in_ok-needs.ensures c.cyclic_rules_are_in_one_group.ensures c.in_ok-groups.groups.items c.in_ok-groups.ensures
    c.in_ok-firsts.firsts.items (subst (λ l. AreFirsts needs l (length l) c.in_ok-firsts.firsts.items) c.deref.ensures.value c.in_ok-firsts.ensures)
