use Rattle.std.proofs.Common.{◌<◌, ℕ, ◌∙◌, ap, arith, below_more, length, refl, subst}
use Rattle.std.specs.declared.ops.Range.{Range}
use Rattle.cfgrammar.specs.Numbered.{core}
use Rattle.generator_tools.proofs.Entries.{HasOne, one_decided, two_decided}
use Rattle.generator_tools.proofs.ll1.is_decided.Goals as goal

pub returns-in-Conflict : goal.returns-in-Conflict
returns-in-Conflict g c =
    let number = g.S.Storage.number in
    let steps = c.in-Some.ensures.steps in
    let within : number c.in-Some.token.0 < length c.args.grammar.now.tokens = omega (arith, steps.0, steps.1, c.loop-token.invariant.end) in (
      (λ h. cc),
      (λ all. absurd (two_decided (core c.args.grammar.now) _ _ number _ _ c.in-Conflict.ensures (λ p q. all _ p q within))),
    )

pub loop-token-preserved : goal.loop-token-preserved
loop-token-preserved g c =
    let number = g.S.Storage.number in
    let steps = c.in-Some.ensures.steps in
    let start = ap (λ (r : Range ℕ). r.start) steps.2 in
    let end = ap (λ (r : Range ℕ). r.end) steps.2 in
    let one = one_decided (core c.args.grammar.now) _ _ number _ c.decide.ensures c.in_default.not-Conflict in
    let more = below_more (λ t. HasOne (core c.args.grammar.now) (number c.args.rule.0) t) _ c.loop-token.invariant.decided
    (subst (HasOne (core c.args.grammar.now) (number c.args.rule.0)) steps.0 one) in
    record {
      end = end ∙ c.loop-token.invariant.end;
      decided = λ t below. more t (subst (λ n. t < n) start below);
    }

pub returns : goal.returns
returns g c =
    let past = c.in-None.ensures.steps.0 in (
      (λ h t p q within. c.loop-token.invariant.decided t (omega (arith, past, within, c.loop-token.invariant.end)) p q),
      (λ all. refl),
    )
