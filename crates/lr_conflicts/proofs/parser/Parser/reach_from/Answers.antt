use Rattle.std.proofs.Common.{List, get_or, subst}
use Rattle.std.proofs.lemmas.List.{get_or_default}
use Rattle.search.specs.Reachable.{FoundBy, Reaches}
use Rattle.search.proofs.Each.{each_all, each_more}
use Rattle.lr_states.specs.Viable.{item_at}
use Rattle.lr_states.specs.declared.Item.{Item}
use Rattle.lr_conflicts.specs.Inner.Choices.{GoesBy}
use Rattle.lr_conflicts.proofs.Gone.{goes_found}
use Rattle.lr_conflicts.proofs.parser.Parser.reach_from.Goals as goal

pub loop-item-preserved : goal.loop-item-preserved
loop-item-preserved c =
    let x = c.args.self.now in
    let all = c.items-item-items.result.now in
    let i = c.loop-item.item-index in
    let item = get_or all i (item_at 0 0) in
    each_more (GoesBy x.grammar.now x.levels.now x.lookaheads.now.automaton c.args.number) all i item _ _ _ c.loop-item-test.true
    (get_or_default all i (item_at 0 0) item c.loop-item-test.true) c.loop-item.invariant
    (subst (λ q. Reaches (GoesBy x.grammar.now x.levels.now x.lookaheads.now.automaton q item) c.loop-item.search c.reach_after.new.search) c.in_ok-state.ensures.number
    c.in_ok-reach_after.ensures)

pub returns : goal.returns
returns c =
    let x = c.args.self.now in
    let all = c.items-item-items.result.now in
    goes_found x.grammar.now x.levels.now x.lookaheads.now c.requires.tables c.invariant_holds.ensures.whole.grammar c.args.number c.requires.number _ _
    (subst (λ (l : List Item). Reaches (FoundBy (GoesBy x.grammar.now x.levels.now x.lookaheads.now.automaton c.args.number) l) c.args.search.now c.loop-item.search)
    c.items-item-items.ensures (each_all _ all c.loop-item.item-index _ _ c.loop-item-test.false c.loop-item.invariant))
