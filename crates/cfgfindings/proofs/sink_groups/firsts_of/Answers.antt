use Rattle.std.proofs.Common.{◌≡◌, ◌+◌, ◌<◌, All, Some, length, arith, sym, ap, subst, ◌∙◌}
use Rattle.std.proofs.lemmas.Option.{slice_get-get_or}
use Rattle.cfgfindings.specs.Inner.SinkGroups.{AreFirsts, IsMarked}
use Rattle.cfgfindings.proofs.SinkGroups.{group_at, members_within, no_group, one_more_group}
use Rattle.cfgfindings.proofs.sink_groups.firsts_of.Goals as goal
use Rattle.cfgfindings.proofs.sink_groups.firsts_of.Goals.{in-Some, in_default}

pub mark_group-requires-clause-rules : goal.mark_group-requires-clause-rules
mark_group-requires-clause-rules c =
    let steps = c.args.steps.now in
    let groups = c.args.groups.now in
    let first = c.loop-first.first in
    let group = c.in-Some.group in
    let at = slice_get-get_or groups first c.index-groups-first.result c.loop-first-test.true ∙ ap Some (sym c.index-groups-first.is ∙ c.in-Some.is) in
    subst (All (λ rule. rule < length steps)) (sym c.deref.ensures.value)
    (members_within steps c.requires.within first group.rules.items group.cycle.items (group_at steps groups c.requires.groups first group at))

pub loop-first-preserved : goal.loop-first-preserved
loop-first-preserved c =
    let steps = c.args.steps.now in
    let groups = c.args.groups.now in
    let first = c.loop-first.first in
    let old = c.loop-first.firsts.items in
    let read = slice_get-get_or groups first c.index-groups-first.result c.loop-first-test.true ∙ ap Some (sym c.index-groups-first.is) in
    elim c.match-groups-first.branch [
      | in-Some w ↦
          let group = w.in-Some.group in
          subst (AreFirsts steps groups (first + 1)) (sym (ap (λ v. v.items) w.firsts-is))
          (one_more_group steps groups first c.cyclic_rules_are_in_one_group.ensures c.requires.groups group (read ∙ ap Some w.in-Some.is) old w.mark_group.new.firsts.items
          w.mark_group.ensures.entries (subst (λ l. IsMarked steps l first old w.mark_group.new.firsts.items) w.deref.ensures.value w.mark_group.ensures.marked)
          c.loop-first.invariant)
      | in_default w ↦
          subst (AreFirsts steps groups (first + 1)) (sym (ap (λ v. v.items) w.firsts-is))
          (no_group steps groups first old (read ∙ ap Some w.in_default.is) c.loop-first.invariant)
    ]

pub returns : goal.returns
returns c =
    let all : c.loop-first.first ≡ length c.args.groups.now = omega (arith, c.loop-first-test.false, c.loop-first.auto.first-end) in
    subst (λ n. AreFirsts c.args.steps.now c.args.groups.now n c.loop-first.firsts.items) all c.loop-first.invariant
