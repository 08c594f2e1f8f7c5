use Rattle.std.proofs.Common.{◌<◌, ℕ, None, length, slice_index, replicate, arith, sym, ap, ◌∙◌, subst}
use Rattle.std.proofs.lemmas.List.{length_push}
use Rattle.cfgcycles.specs.CyclicGroups.{IsGroupOf}
use Rattle.cfgcycles.specs.StepLists.{HasStep}
use Rattle.search.specs.Components.{AreComponents}
use Rattle.cfgcycles.specs.Inner.Components.{StepsTo}
use Rattle.cfgcycles.specs.Inner.Members.{AreInner}
use Rattle.cfgcycles.proofs.Members.{group_is, member_within, members_at, one_more_entry, reached_member}
use Rattle.cfgcycles.proofs.groups.cyclic_groups.Goals as goal

pub loop-rule-init : goal.loop-rule-init
loop-rule-init c =
    let steps = c.args.steps.now in
    let same = c.in_ok-layers.ensures.steps in record {
      lists = ap length same ∙ c.in_ok-inner.ensures.lists;
      inner = subst (AreInner steps c.in_ok-components.components.numbers.items) (sym same) (subst (λ l. AreInner steps l c.in_ok-inner.inner) c.deref.ensures.value c.in_ok-inner.ensures.inner);
      found = c.in_ok-layers.ensures.found ∙ ap (λ l. replicate (length l) None) (sym same);
      entries = ap length c.new-groups.ensures.items;
      each = λ k lt. absurd (omega (arith, lt));
    }

pub group_of-requires-clause-within : goal.group_of-requires-clause-within
group_of-requires-clause-within c = λ rule step h.
    subst (λ n. step.rule < n) (sym c.loop-rule.invariant.lists) (c.requires rule step ((c.loop-rule.invariant.inner rule step).0 h).0)

pub group_of-requires-clause-all : goal.group_of-requires-clause-all
group_of-requires-clause-all c =
    let numbers = c.in_ok-components.components.numbers.items in
    let are = subst (λ n. AreComponents (StepsTo c.args.steps.now) n numbers c.in_ok-components.components.members) c.len.ensures c.in_ok-components.ensures in
    let lt : c.loop-rule.rule < length c.args.steps.now = omega (arith, c.loop-rule-test.true, c.len-rule-end.ensures) in
    reached_member c.args.steps.now numbers c.loop-rule.layers.steps.now c.requires _ are c.loop-rule.invariant.inner c.loop-rule.rule lt c.of-members.result.now
    (members_at numbers (length c.args.steps.now) c.loop-rule.rule c.index.result.now _ c.of-members.result.now
    (subst (λ n. c.loop-rule.rule < n) (sym are.entries) lt) c.index.ensures c.of-members.ensures are.each)

pub group_of-requires-clause-inside : goal.group_of-requires-clause-inside
group_of-requires-clause-inside c = λ other h.
    let numbers = c.in_ok-components.components.numbers.items in
    let are = subst (λ n. AreComponents (StepsTo c.args.steps.now) n numbers c.in_ok-components.components.members) c.len.ensures c.in_ok-components.ensures in
    let lt : c.loop-rule.rule < length c.args.steps.now = omega (arith, c.loop-rule-test.true, c.len-rule-end.ensures) in
    subst (λ n. other < n) (sym c.loop-rule.invariant.lists)
    (member_within c.args.steps.now numbers c.loop-rule.layers.steps.now c.requires _ are c.loop-rule.invariant.inner c.loop-rule.rule lt c.of-members.result.now
    (members_at numbers (length c.args.steps.now) c.loop-rule.rule c.index.result.now _ c.of-members.result.now
    (subst (λ n. c.loop-rule.rule < n) (sym are.entries) lt) c.index.ensures c.of-members.ensures are.each) other h)

pub loop-rule-preserved : goal.loop-rule-preserved
loop-rule-preserved c =
    let steps = c.args.steps.now in
    let numbers = c.in_ok-components.components.numbers.items in
    let are = subst (λ n. AreComponents (StepsTo c.args.steps.now) n numbers c.in_ok-components.components.members) c.len.ensures c.in_ok-components.ensures in
    let before = c.loop-rule.invariant in
    let same = c.in_ok-group.ensures.steps in
    let long = ap length c.in_ok-push.ensures.items ∙ length_push c.loop-rule.groups.items c.in_ok-group.group in
    let lt : c.loop-rule.rule < length steps = omega (arith, c.loop-rule-test.true, c.len-rule-end.ensures) in
    record {
      lists = ap length same ∙ before.lists;
      inner = subst (AreInner steps numbers) (sym same) before.inner;
      found = c.in_ok-group.ensures.found ∙ before.found ∙ ap (λ l. replicate (length l) None) (sym same);
      entries = omega (arith, long, before.entries);
      each = one_more_entry (IsGroupOf (HasStep steps)) c.loop-rule.groups.items c.push.new.self.items None c.in_ok-group.group c.loop-rule.rule
          c.in_ok-push.ensures.items before.entries before.each
          (group_is steps numbers c.loop-rule.layers.steps.now c.requires _ are before.inner c.loop-rule.rule lt c.of-members.result.now
          (members_at numbers (length steps) c.loop-rule.rule c.index.result.now _ c.of-members.result.now
          (subst (λ n. c.loop-rule.rule < n) (sym are.entries) lt) c.index.ensures c.of-members.ensures are.each)
          c.in_ok-group.group c.in_ok-group.ensures.group);
    }

pub returns : goal.returns
returns c = record {
  entries = omega (arith, c.loop-rule.invariant.entries, c.loop-rule-test.false, c.loop-rule.auto.rule-end, c.len-rule-end.ensures);
  each = λ k lt. c.loop-rule.invariant.each k (omega (arith, lt, c.loop-rule-test.false, c.len-rule-end.ensures));
}
