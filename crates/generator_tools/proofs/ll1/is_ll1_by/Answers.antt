use Rattle.std.proofs.Common.{◌<◌, ℕ, ◌∙◌, ap, arith, below_more, length, refl, subst}
use Rattle.std.specs.declared.ops.Range.{Range}
use Rattle.cfgrammar.specs.Numbered.{core}
use Rattle.generator_tools.proofs.Entries.{HasOne}
use Rattle.generator_tools.proofs.ll1.is_ll1_by.Goals as goal

pub returns-then-not-is_decided : goal.returns-then-not-is_decided
returns-then-not-is_decided g c =
    let number = g.S.Storage.number in
    let steps = c.in-Some.ensures.steps in
    let within : number c.in-Some.rule.0 < length c.args.grammar.now.rules = omega (arith, steps.0, steps.1, c.loop-rule.invariant.end) in (
      (λ h. cc),
      (λ ll1. let on = c.is_decided.ensures.1 (λ t p q inside. ll1 _ t p q within inside) in cc),
    )

pub loop-rule-preserved : goal.loop-rule-preserved
loop-rule-preserved g c =
    let grammar = c.args.grammar.now in
    let steps = c.in-Some.ensures.steps in
    let start = ap (λ (r : Range ℕ). r.start) steps.2 in
    let end = ap (λ (r : Range ℕ). r.end) steps.2 in
    let here = c.is_decided.ensures.0 c.if-not-is_decided.false in
    let more = below_more (λ r. (t : ℕ) → t < length grammar.tokens → HasOne (core grammar) r t) _
    (λ r below t within. c.loop-rule.invariant.decided r t below within)
    (subst (λ r. (t : ℕ) → t < length grammar.tokens → HasOne (core grammar) r t) steps.0 (λ t within p q. here t p q within)) in
    record {
      end = end ∙ c.loop-rule.invariant.end;
      decided = λ r t below within. more r (subst (λ n. r < n) start below) t within;
    }

pub returns : goal.returns
returns g c =
    let past = c.in-None.ensures.steps.0 in (
      (λ h r t p q within inside. c.loop-rule.invariant.decided r t (omega (arith, past, within, c.loop-rule.invariant.end)) inside p q),
      (λ all. refl),
    )
