use Rattle.std.proofs.Common.{inl, inr, None, Some, sym, subst}
use Rattle.cfgfindings.specs.Inner.SinkGroups.{LeadTo}
use Rattle.cfgfindings.proofs.SinkGroups.{closed_marked, marked_closed, set_twice}
use Rattle.cfgfindings.proofs.sink_groups.mark_group.Goals as goal

pub returns-then-not-is_closed-clause-marked : goal.returns-then-not-is_closed-clause-marked
returns-then-not-is_closed-clause-marked c =
    let steps = c.args.steps.now in
    let rules = c.args.rules.now in
    let first = c.args.first in
    let old = c.args.firsts.now.items in
    let mid = c.set_all.new.entries.items in
    inr (
      (λ closed. c.if-not-is_closed.ensures (subst (λ l. LeadTo steps l first rules) (sym c.deref.ensures.value) (closed_marked steps rules first old mid c.set_all.ensures.set closed))),
      λ rule. set_twice rules (Some first) None old mid c.set_all-then-not-is_closed.new.entries.items rule (c.set_all.ensures.set rule)
          (c.set_all-then-not-is_closed.ensures.set rule),
    )

pub returns-else-not-is_closed-clause-marked : goal.returns-else-not-is_closed-clause-marked
returns-else-not-is_closed-clause-marked c =
    let steps = c.args.steps.now in
    let rules = c.args.rules.now in
    let first = c.args.first in
    inl (
      marked_closed steps rules first c.args.firsts.now.items c.set_all.new.entries.items c.set_all.ensures.set c.requires.fresh
          (subst (λ l. LeadTo steps l first rules) c.deref.ensures.value c.if-not-is_closed.ensures),
      c.set_all.ensures.set,
    )
