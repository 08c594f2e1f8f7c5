use Rattle.std.proofs.Common.{◌≡◌, ◌<◌, arith, length, subst, sym, ◌∙◌}
use Rattle.lr_states.proofs.Growing.{up_to_more, up_to_none}
use Rattle.lr_states.proofs.lookaheads.nodes.owners.Goals as goal

pub loop-production-init : goal.loop-production-init
loop-production-init c = up_to_none _ _ _ c.new-owners.ensures.items

pub loop-production-preserved : goal.loop-production-preserved
loop-production-preserved c = up_to_more _ _ _ _ _ _ c.loop-production.invariant c.rule_of.ensures c.in_ok-push.ensures.items

pub returns : goal.returns
returns c =
    let end : c.loop-production.production ≡ length c.args.grammar.now.productions =
    omega (arith, c.loop-production-test.false, c.loop-production.auto.production-end, c.from-production-end.ensures, c.prods_len.ensures) in
    record { count = c.loop-production.invariant.count ∙ end; owners = λ p low. c.loop-production.invariant.each p (subst (λ n. p < n) (sym end) low) }
