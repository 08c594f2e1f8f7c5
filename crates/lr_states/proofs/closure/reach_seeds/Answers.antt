use Rattle.std.proofs.Common.{◌≡◌, ◌==◌, List, [], true, ap, arith, get_or, length}
use Rattle.std.proofs.lemmas.List.{get_or_default}
use Rattle.std.proofs.lemmas.List.Elements.{Contains-get_or}
use Rattle.search.proofs.Each.{each_all, each_more}
use Rattle.cfgrammar.specs.Grammar.{Rule}
use Rattle.cfgrammar.specs.Numbered.{core}
use Rattle.lr_states.specs.declared.Item.{Item}
use Rattle.lr_states.specs.Inner.Closure.{IsOn}
use Rattle.lr_states.specs.Viable.{HasNext, item_at}
use Rattle.lr_states.proofs.Rules.{seeds_found}
use Rattle.lr_states.proofs.closure.reach_seeds.Goals as goal

pub reach_next-requires-clause-within : goal.reach_next-requires-clause-within
reach_next-requires-clause-within c =
    c.requires.within _ (Contains-get_or c.args.kernel.now c.loop-item.item-index (item_at 0 0) c.loop-item-test.true)

pub loop-item-preserved : goal.loop-item-preserved
loop-item-preserved c =
    let all = c.args.kernel.now in
    let n = c.loop-item.item-index in
    each_more (λ item r. HasNext (core c.args.grammar.now) item (Rule r)) all n (get_or all n (item_at 0 0)) _ _ _ c.loop-item-test.true
    (get_or_default all n _ _ c.loop-item-test.true) c.loop-item.invariant c.in_ok-reach_next.ensures

pub returns : goal.returns
returns c = seeds_found (core c.args.grammar.now) (IsOn []) c.args.kernel.now
    (λ none. let full = c.if-is_empty.false in let is = c.is_empty.ensures in let zero : (length c.args.kernel.now == 0) ≡ true = ap (λ (l : List Item). length l == 0) none in cc) _ _
    (each_all _ _ _ _ _ (omega (arith, c.loop-item-test.false, c.loop-item.auto.item-index-end)) c.loop-item.invariant)
