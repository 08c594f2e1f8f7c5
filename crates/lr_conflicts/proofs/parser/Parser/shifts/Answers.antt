use Rattle.std.proofs.Common.{◌↔◌, ◌+◌, ◌<◌, ℕ, List, Bool, true, false, IsTrue, ap, arith, get_or, length, length-set, subst, sym, take, ◌∙◌}
use Rattle.std.proofs.lemmas.List.{get_or_default, take_all}
use Rattle.lr_states.specs.Viable.{item_at}
use Rattle.lr_conflicts.specs.Inner.Choices.{items_in}
use Rattle.lr_conflicts.proofs.Read.{IsShiftedIn, shifted_in, shifts_more, shifts_skip}
use Rattle.lr_conflicts.proofs.parser.Parser.shifts.Goals as goal
use Rattle.lr_conflicts.proofs.parser.Parser.shifts.Goals.{in-Some, in_default}

pub loop-item-preserved : goal.loop-item-preserved
loop-item-preserved c =
    let g = c.args.self.now.grammar.now in
    let items = c.items-item-items.result.now in
    let i = c.loop-item.item-index in
    let within = c.loop-item-test.true in
    let item = get_or items i (item_at 0 0) in
    let at = get_or_default items i (item_at 0 0) item within in
    let bits = c.loop-item.shifts in
    elim c.match-shifted_token.branch [
      | in-Some w ↦
          let token = w.in-Some.token in
          let inside : token < length bits = omega (arith, w.in-Some.ensures.within, c.loop-item.invariant.long) in
          let set = w.shifts-is ∙ w.set.ensures.bits in
          record {
            long = ap (λ (l : List Bool). length l) set ∙ length-set bits token true ∙ c.loop-item.invariant.long;
            bits = shifts_more g items i item within at bits c.loop-item.invariant.bits token inside w.in-Some.ensures.is c.match-shifted_token.shifts set;
          }
      | in_default w ↦ record {
        long = ap (λ (l : List Bool). length l) w.shifts-is ∙ c.loop-item.invariant.long;
        bits = subst (λ (l : List Bool). (t : ℕ) → IsTrue (get_or l t false) ↔ IsShiftedIn g (take (i + 1) items) t) (sym w.shifts-is)
            (shifts_skip g items i item within at bits c.loop-item.invariant.bits (λ t by. w.in_default.not-Some t ((c.shifted_token.ensures.is t).1 by)));
      }
    ]

pub returns : goal.returns
returns c = λ t within.
    let x = c.args.self.now in
    let items = c.items-item-items.result.now in
    let all = subst (λ l. IsTrue (get_or c.loop-item.shifts t false) ↔ IsShiftedIn x.grammar.now l t)
    (take_all c.loop-item.item-index items c.loop-item-test.false ∙ c.items-item-items.ensures) (c.loop-item.invariant.bits t) in
    let is = shifted_in x.grammar.now x.levels.now (items_in x c.args.number) t in
    ((λ on. is.0 (all.0 on)), (λ can. all.1 (is.1 can)))
