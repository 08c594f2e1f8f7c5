use Rattle.std.proofs.Common.{◌≡◌, arith, length, subst, sym, ◌∙◌}
use Rattle.std.proofs.lemmas.List.{length-map}
use Rattle.cfgrammar.specs.Numbered.{core, production_core}
use Rattle.lr_states.specs.Inner.Edges.{IsNullableFrom}
use Rattle.lr_states.proofs.Growing.{up_to_more, up_to_none}
use Rattle.lr_states.proofs.lookaheads.nullable.nullable_from.Goals as goal

pub loop-production-init : goal.loop-production-init
loop-production-init c = up_to_none _ _ _ c.new-from.ensures.items

pub loop-production-preserved : goal.loop-production-preserved
loop-production-preserved c = up_to_more _ _ _ _ _ _ c.loop-production.invariant
    (subst (λ l. IsNullableFrom (core c.args.grammar.now) l c.nullable_suffix.result) c.symbols_of.ensures.symbols (c.nullable_suffix.ensures (core c.args.grammar.now) c.requires))
    c.in_ok-push.ensures.items

pub returns : goal.returns
returns c =
    let count = c.loop-production.invariant.count in
    let products = length-map c.args.grammar.now.productions production_core in
    let end : c.loop-production.production ≡ length c.args.grammar.now.productions =
    omega (arith, c.loop-production-test.false, c.loop-production.auto.production-end, c.from-production-end.ensures, c.prods_len.ensures) in
    record { count = count ∙ end ∙ sym products; each = λ p low. c.loop-production.invariant.each p (omega (arith, low, end, products)) }
