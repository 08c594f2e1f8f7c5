use Rattle.std.proofs.Common.{◌≡◌, Bool, false, List, length, arith, sym, ap, ◌∙◌, subst}
use Rattle.std.proofs.lemmas.List.{length-map, length-replicate}
use Rattle.std.proofs.lemmas.List.Elements.{All-same}
use Rattle.search.specs.Components.{AreComponents}
use Rattle.lr_states.specs.Inner.Reached.{Leads}
use Rattle.lr_states.proofs.ComponentRows.{members_within, no_rows, row_pushed, row_shown}
use Rattle.lr_states.proofs.lookaheads.reached.Reached.of.Goals as goal

pub loop-component-init : goal.loop-component-init
loop-component-init c = no_rows _ _ _ _ c.in_ok-rows.ensures.items

pub add_nodes-requires-clause-nodes : goal.add_nodes-requires-clause-nodes
add_nodes-requires-clause-nodes c =
    let lists = c.args.edges.now in
    let numbers = c.in_ok-numbers.field-0.numbers.items in
    let members = c.in_ok-numbers.field-0.members in
    let are = subst (λ n. AreComponents (Leads lists) n numbers members) c.len.ensures c.in_ok-numbers.ensures in
    members_within lists c.args.bound numbers members are c.loop-component.component c.of-in-loop-component.result.now c.of-in-loop-component.ensures

pub add_nodes-requires-clause-numbers : goal.add_nodes-requires-clause-numbers
add_nodes-requires-clause-numbers c = ap length c.deref.ensures.value ∙ c.in_ok-numbers.ensures.entries ∙ c.len.ensures

pub add_nodes-requires-clause-rows : goal.add_nodes-requires-clause-rows
add_nodes-requires-clause-rows c =
    let row = c.in_ok-row.row in
    let HasBits : List Bool → Type 0 = λ other. length other ≡ length row in
    All-same HasBits _ _ c.deref-in-loop-component.ensures.value
    (λ k d lt. c.loop-component.invariant.bits k d lt ∙ sym (ap length c.in_ok-row.ensures ∙ length-replicate c.args.bound false))

pub loop-component-preserved : goal.loop-component-preserved
loop-component-preserved c =
    let lists = c.args.edges.now in
    let numbers = c.in_ok-numbers.field-0.numbers.items in
    let members = c.in_ok-numbers.field-0.members in
    let are = subst (λ n. AreComponents (Leads lists) n numbers members) c.len.ensures c.in_ok-numbers.ensures in
    row_pushed lists c.args.bound numbers members are c.loop-component.component _ _ c.add_nodes.new.row c.loop-component.invariant c.in_ok-push.ensures.items
    (rw (c.deref.ensures.value, c.deref-in-loop-component.ensures.value, c.of-in-loop-component.ensures, c.in_ok-row.ensures) at c.add_nodes.ensures)

pub returns : goal.returns
returns c =
    let lists = c.args.edges.now in
    let numbers = c.in_ok-numbers.field-0.numbers.items in
    let members = c.in_ok-numbers.field-0.members in
    let are = subst (λ n. AreComponents (Leads lists) n numbers members) c.len.ensures c.in_ok-numbers.ensures in
    record {
      nodes = length-map numbers _ ∙ are.entries;
      rows = row_shown lists c.args.bound numbers members are c.loop-component.component _ c.loop-component.invariant (omega (arith, c.loop-component-test.false, c.len-component-end.ensures));
    }
