use Rattle.std.proofs.Common.{◌≡◌, ◌<◌, ◌∙◌, length, ap, arith, subst, sym}
use Rattle.std.specs.List.{slice_index}
use Rattle.search.specs.Components.{AreComponents}
use Rattle.cfggreatest.specs.Inner.Edges.{IsEdge}
use Rattle.cfggreatest.specs.Inner.Known.{known_below}
use Rattle.cfggreatest.specs.Inner.Sums.{IsGroup}
use Rattle.cfggreatest.proofs.Growing.{are_settled}
use Rattle.cfggreatest.proofs.Grouping.{alike, is_group, member_within, settles, some_member}
use Rattle.cfggreatest.proofs.greatest.greatest_costs.Given.{Over}
use Rattle.cfggreatest.proofs.greatest.greatest_costs.Goals.{In_ok-groups}
use Rattle.cfggreatest.proofs.greatest.greatest_costs.Goals as goal

rules : (g : Over) (c : In_ok-groups g) → c.to_usize-rules_len.result ≡ (g.T.Tables.grammar c.args.grm.now).rules
rules g c = c.to_usize-rules_len.ensures.value ∙ c.rules_len.ensures.value

components : (g : Over) (c : In_ok-groups g)
    → AreComponents (IsEdge (g.T.Tables.grammar c.args.grm.now) c.in_ok-productive.productive) (g.T.Tables.grammar c.args.grm.now).rules
    c.in_ok-groups.groups.numbers.items c.in_ok-groups.groups.members
components g c = subst (λ n. AreComponents (IsEdge (g.T.Tables.grammar c.args.grm.now) c.in_ok-productive.productive) n c.in_ok-groups.groups.numbers.items c.in_ok-groups.groups.members)
    (rules g c) c.in_ok-groups.ensures

pub loop-number-init : goal.loop-number-init
loop-number-init g c = record {
  all = sym c.in_ok-results.results.ok.0 ∙ c.in_ok-results.ensures.len ∙ rules g (goal.at.loop-number-init g c).In_ok-groups;
  means = λ r lt below. absurd (omega (arith, below));
}

pub returns : goal.returns
returns g c =
    let are = components g (goal.at.returns g c).In_ok-groups in
    are_settled _ _ c.rules_len.ensures.content _ c.loop-number.invariant.all
    (λ r lt. c.loop-number.invariant.means r lt (let within = are.within r lt in omega (arith, within, c.loop-number-test.false, c.len-number-end.ensures)))

pub result-result-requires-clause-group : goal.result-result-requires-clause-group
result-result-requires-clause-group g c =
    let grammar = g.T.Tables.grammar c.args.grm.now in
    let cost = slice_index c.args.costs.now in
    let productive = c.in_ok-productive.productive in
    let are = components g (goal.at.result-result-requires-clause-group g c).In_ok-groups in
    let numbers = c.in_ok-groups.groups.numbers.items in
    let number = c.loop-number.number in
    let results = c.loop-number.results.items in
    let members = c.of-rules.result.now in
    record {
      numbers = ap length c.deref.ensures.value ∙ are.entries;
      results = ap length c.deref-in-loop-number.ensures.value ∙ c.loop-number.invariant.all;
      costs = c.requires.costs;
      is = subst (λ l. IsGroup grammar cost productive (known_below l number c.deref-in-loop-number.result.now) members) (sym c.deref.ensures.value)
          (subst (λ l. IsGroup grammar cost productive (known_below numbers number l) members) (sym c.deref-in-loop-number.ensures.value)
          (is_group grammar cost productive c.in_ok-productive.ensures numbers c.in_ok-groups.groups.members are number results c.loop-number.invariant members c.of-rules.ensures));
    }

pub result-result-requires-clause-some : goal.result-result-requires-clause-some
result-result-requires-clause-some g c = some_member (g.T.Tables.grammar c.args.grm.now) (slice_index c.args.costs.now) c.in_ok-productive.productive c.in_ok-productive.ensures
    c.in_ok-groups.groups.numbers.items c.in_ok-groups.groups.members (components g (goal.at.result-result-requires-clause-some g c).In_ok-groups) c.loop-number.number
    c.loop-number.results.items c.loop-number.invariant c.of-rules.result.now c.of-rules.ensures (omega (arith, c.loop-number-test.true, c.len-number-end.ensures))

pub result-result-requires-clause-within : goal.result-result-requires-clause-within
result-result-requires-clause-within g c = member_within (g.T.Tables.grammar c.args.grm.now) (slice_index c.args.costs.now) c.in_ok-productive.productive c.in_ok-productive.ensures
    c.in_ok-groups.groups.numbers.items c.in_ok-groups.groups.members (components g (goal.at.result-result-requires-clause-within g c).In_ok-groups) c.loop-number.number
    c.loop-number.results.items c.loop-number.invariant c.of-rules.result.now c.of-rules.ensures

pub result-result-requires-clause-alike : goal.result-result-requires-clause-alike
result-result-requires-clause-alike g c = alike (g.T.Tables.grammar c.args.grm.now) (slice_index c.args.costs.now) c.in_ok-productive.productive c.in_ok-productive.ensures
    c.in_ok-groups.groups.numbers.items c.in_ok-groups.groups.members (components g (goal.at.result-result-requires-clause-alike g c).In_ok-groups) c.loop-number.number
    c.loop-number.results.items c.loop-number.invariant c.of-rules.result.now c.of-rules.ensures

pub set_results-requires : goal.set_results-requires
set_results-requires g c = λ r among.
    let lt = member_within (g.T.Tables.grammar c.args.grm.now) (slice_index c.args.costs.now) c.in_ok-productive.productive c.in_ok-productive.ensures
    c.in_ok-groups.groups.numbers.items c.in_ok-groups.groups.members (components g (goal.at.set_results-requires g c).In_ok-groups) c.loop-number.number
    c.loop-number.results.items c.loop-number.invariant c.of-rules.result.now c.of-rules.ensures r among in
    subst (λ n. r < n) (sym c.loop-number.invariant.all) lt

pub loop-number-preserved : goal.loop-number-preserved
loop-number-preserved g c = settles (g.T.Tables.grammar c.args.grm.now) (slice_index c.args.costs.now) c.in_ok-productive.productive c.in_ok-productive.ensures
    c.in_ok-groups.groups.numbers.items c.in_ok-groups.groups.members (components g (goal.at.loop-number-preserved g c).In_ok-groups) c.loop-number.number
    c.loop-number.results.items c.loop-number.invariant c.of-rules.result.now c.of-rules.ensures
    _ _ c.set_results.ensures.len c.set_results.ensures.set c.set_results.ensures.rest c.result-result.ensures
