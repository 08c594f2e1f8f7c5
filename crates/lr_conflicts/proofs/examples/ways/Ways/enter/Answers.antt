use Rattle.std.proofs.Common.{◌≡◌, ◌<◌, arith, length}
use Rattle.lr_states.specs.Viable.{item_at}
use Rattle.lr_conflicts.specs.Inner.Searches.{setting}
use Rattle.lr_conflicts.specs.Inner.Ways.{Enters, IsNext, Shown, item_node}
use Rattle.lr_conflicts.proofs.Entering.{among_all, among_more, position_is}
use Rattle.lr_conflicts.proofs.Shown.{each_as, entered_shown}
use Rattle.lr_conflicts.proofs.examples.ways.Ways.enter.Goals as goal

pub add_used-requires-clause-shown : goal.add_used-requires-clause-shown
add_used-requires-clause-shown c =
    let w = setting c.args.self.now in
    let lt : c.loop-production.production-index < length c.productions_of-production-items.result.now = omega (arith, c.loop-production-test.true) in
    let owner = (position_is w c.args.rule c.productions_of-production-items.result.now c.productions_of-production-items.ensures c.loop-production.production-index c.from.result (record { 0 = 0 }) lt c.from.ensures).1 in
    λ used. each_as w c.args.step (IsNext w c.args.place c.args.rule c.args.followed) (Shown w (item_node c.args.place (item_at c.from.result 0) c.args.followed))
    (λ prefix after h. (entered_shown w c.args.place c.from.result c.args.rule prefix after used owner h.0, h.1)) c.requires.next

pub loop-production-preserved : goal.loop-production-preserved
loop-production-preserved c =
    let w = setting c.args.self.now in
    let lt : c.loop-production.production-index < length c.productions_of-production-items.result.now = omega (arith, c.loop-production-test.true) in
    among_more w c.args.rule c.productions_of-production-items.result.now c.productions_of-production-items.ensures
    (λ p n. w.Used p × (n ≡ item_node c.args.place (item_at p 0) c.args.followed)) c.loop-production.production-index c.from.result (record { 0 = 0 }) lt c.from.ensures
    _ _ _ c.loop-production.invariant c.in_ok-add_used.ensures

pub returns : goal.returns
returns c =
    let w = setting c.args.self.now in
    among_all w c.args.rule c.productions_of-production-items.result.now c.productions_of-production-items.ensures
    (λ p n. w.Used p × (n ≡ item_node c.args.place (item_at p 0) c.args.followed)) (Enters w c.args.place c.args.rule c.args.followed)
    (λ n h. (h.production, h.used.within, h.owner, (h.used, h.is))) c.loop-production.production-index (omega (arith, c.loop-production-test.false))
    _ _ c.loop-production.invariant
