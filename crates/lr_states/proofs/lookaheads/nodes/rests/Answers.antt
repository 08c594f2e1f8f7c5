use Rattle.std.proofs.Common.{◌≡◌, ◌+◌, [], ◌∷◌, ◌++◌, subst, sym, arith, ap, length, ◌∙◌}
use Rattle.std.proofs.lemmas.List.{length-map}
use Rattle.cfgrammar.specs.Numbered.{core, production_core}
use Rattle.cfgrammar.specs.NumberedSymbols.{sym_of}
use Rattle.lr_states.proofs.Rests.{AreSoFar, rests_all, rests_more, rests_none}
use Rattle.lr_states.proofs.lookaheads.nodes.rests.Goals as goal

pub loop-production-init : goal.loop-production-init
loop-production-init c = subst (λ l. AreSoFar (core c.args.grammar.now) c.args.first 0 l c.args.first)
    (sym (c.in_ok-push.ensures.items ∙ ap (λ l. l ++ c.args.first ∷ []) c.new-rests.ensures.items)) (rests_none (core c.args.grammar.now) c.args.first)

pub loop-production-preserved : goal.loop-production-preserved
loop-production-preserved c =
    let g = core c.args.grammar.now in
    let k = c.loop-production.production in
    let old = c.loop-production.rests.items in
    let long = sym (length-map c.symbols_of.result.now (sym_of (λ s. s))) ∙ ap length c.symbols_of.ensures.symbols in
    let sum = rw c.in_ok-end.ensures.ok_part at c.checked_add.ensures in
    let more = sum.1 in
    subst (λ l. AreSoFar g c.args.first (k + 1) l c.in_ok-end.end) (sym c.in_ok-push-2.ensures.items)
    (rests_more g c.args.first k old c.loop-production.end c.in_ok-end.end c.loop-production.invariant (omega (arith, more, long)))

pub returns : goal.returns
returns c =
    let products = length-map c.args.grammar.now.productions production_core in
    let end : c.loop-production.production ≡ length c.args.grammar.now.productions =
    omega (arith, c.loop-production-test.false, c.loop-production.auto.production-end, c.from-production-end.ensures, c.prods_len.ensures) in
    rests_all (core c.args.grammar.now) c.args.first c.loop-production.production c.loop-production.rests.items c.loop-production.end (end ∙ sym products) c.loop-production.invariant
