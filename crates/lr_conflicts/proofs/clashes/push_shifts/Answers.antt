use Rattle.std.proofs.Common.{◌+◌, Global, Vec, get_or, subst, sym, take, ◌∙◌, true≢false}
use Rattle.std.proofs.lemmas.List.{get_or_default, take_all}
use Rattle.lr_states.specs.Viable.{item_at}
use Rattle.lr_conflicts.specs.Inner.Pushed.{AddsClashes, IsAgainst}
use Rattle.lr_conflicts.specs.declared.clashes.Entry.{Entry}
use Rattle.lr_conflicts.proofs.Pushed.{IsShiftOf, is_token, shift_more, shift_skip, shifts_all}
use Rattle.lr_conflicts.proofs.clashes.push_shifts.Goals as goal
use Rattle.lr_conflicts.proofs.clashes.push_shifts.Goals.{then-eq+in_ok-push_against, else-eq}

pub loop-item-preserved : goal.loop-item-preserved
loop-item-preserved c =
    let g = c.args.grammar.now in
    let conflict = c.args.conflict.now in
    let items = c.items_of-item-items.result.now in
    let i = c.loop-item.item-index in
    let within = c.loop-item-test.true in
    let item = get_or items i (item_at 0 0) in
    let at = get_or_default items i (item_at 0 0) item within in
    let old = c.args.entries.now.items in
    let entries = c.loop-item.entries.items in
    let is = is_token c.shifted_token.result conflict.token in
    elim c.if-eq.branch [
      | then-eq+in_ok-push_against w ↦ subst (λ (v : Vec Entry Global). AddsClashes (IsShiftOf g conflict (take (i + 1) items)) old v.items) (sym w.entries-is)
          (shift_more g conflict items i item within at old entries c.loop-item.invariant
          ((c.shifted_token.ensures.is conflict.token).0 (is.0 (sym c.eq.ensures ∙ w.if-eq.true))) w.push_against.new.entries.items
          (subst (λ l. AddsClashes (IsAgainst _ item l conflict.token) entries w.push_against.new.entries.items) w.deref.ensures.value w.in_ok-push_against.ensures))
      | else-eq w ↦ subst (λ (v : Vec Entry Global). AddsClashes (IsShiftOf g conflict (take (i + 1) items)) old v.items) (sym w.entries-is)
          (shift_skip g conflict items i item within at old entries c.loop-item.invariant
          (λ by. true≢false (sym (c.eq.ensures ∙ is.1 ((c.shifted_token.ensures.is conflict.token).1 by)) ∙ w.if-eq.false)))
    ]

pub returns : goal.returns
returns c =
    let items = c.items_of-item-items.result.now in
    shifts_all c.args.grammar.now c.args.states.now c.args.conflict.now c.if-not-conflict.false c.args.entries.now.items c.loop-item.entries.items
    (subst (λ l. AddsClashes (IsShiftOf c.args.grammar.now c.args.conflict.now l) c.args.entries.now.items c.loop-item.entries.items)
    (take_all c.loop-item.item-index items c.loop-item-test.false ∙ c.items_of-item-items.ensures) c.loop-item.invariant)
