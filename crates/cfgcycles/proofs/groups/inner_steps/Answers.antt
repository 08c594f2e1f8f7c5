use Rattle.std.proofs.Common.{Contains, arith, subst}
use Rattle.cfgcycles.proofs.Members.{all_inner, next_inner}
use Rattle.cfgcycles.proofs.groups.inner_steps.Goals as goal

pub put_inner-requires-clause-within : goal.put_inner-requires-clause-within
put_inner-requires-clause-within c = λ step h.
    omega (arith, c.requires.within c.loop-rule.rule step (subst (λ l. Contains l step) c.of.ensures h), c.requires.numbers)

pub loop-rule-preserved : goal.loop-rule-preserved
loop-rule-preserved c =
    next_inner c.args.steps.now c.args.numbers.now c.loop-rule.rule c.of.result.now _ _ c.of.ensures c.loop-rule.invariant c.in_ok-put_inner.ensures

pub returns-clause-inner : goal.returns-clause-inner
returns-clause-inner c =
    all_inner c.args.steps.now c.args.numbers.now c.loop-rule.rule _ c.loop-rule.invariant (omega (arith, c.loop-rule-test.false, c.len-rule-end.ensures))
