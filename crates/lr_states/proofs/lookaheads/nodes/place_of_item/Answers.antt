use Rattle.std.proofs.Common.{◌≡◌, ◌<◌, arith, get_or, length, rules, sym, true≢false, ◌∙◌}
use Rattle.std.proofs.lemmas.List.Sorted.{IsPartitionPoint-from_clause}
use Rattle.lr_states.specs.Viable.{item_at}
use Rattle.lr_states.specs.Inner.Numbers.{is_before}
use Rattle.lr_states.proofs.Places.{item_found, item_missing, items_parted, same_item}
use Rattle.lr_states.proofs.lookaheads.nodes.place_of_item.Goals as goal
use Rattle.lr_states.proofs.lookaheads.nodes.place_of_item.Goals.{else-place-items-via-then-place-items+else-eq, else-place-items-via-else-place-items}

pub returns-then-eq : goal.returns-then-eq
returns-then-eq c = item_found c.args.items.now c.requires c.args.item c.partition_point-place.result (item_at 0 0) c.if-place-items.true
    ((same_item (get_or c.args.items.now c.partition_point-place.result (item_at 0 0)) c.args.item).0 (sym c.eq.ensures ∙ c.if-eq.true))

pub returns-else-place-items : goal.returns-else-place-items
returns-else-place-items c =
    let all = c.args.items.now in
    let place = c.partition_point-place.result in
    let point = IsPartitionPoint-from_clause (λ other. is_before other c.args.item) _ _ c.partition_point-place.ensures.partitioned (items_parted all c.requires c.args.item)
    (λ a r q k. search rules) in
    let none : place < length all → get_or all place (item_at 0 0) ≡ c.args.item → ⊥ = elim c.else-place-items.branch [
      | else-place-items-via-then-place-items+else-eq w ↦ λ within is. true≢false (sym ((same_item (get_or all place (item_at 0 0)) c.args.item).1 is) ∙ sym w.eq.ensures ∙ w.if-eq.false)
      | else-place-items-via-else-place-items w ↦ λ within same. let past = w.if-place-items.false in omega (arith, within, past)
    ] in
    item_missing all c.requires c.args.item place point (item_at 0 0) none
