use Rattle.std.proofs.Common.{map, ◌<◌, ◌≤◌, length, refl, sym, ◌∙◌, true≢false, below_more, arith}
use Rattle.cfgleast.specs.Certificate.{IsReached, choice_of}
use Rattle.cfgleast.proofs.Certified.{certified_sentence}
use Rattle.cfgcertificate.proofs.certificate.check_reached.Goals as goal

pub is_reached-requires-clause-rule : goal.is_reached-requires-clause-rule
is_reached-requires-clause-rule g c = omega (arith, c.loop-rule-test.true, c.to_usize-rules_len.ensures.value, c.rules_len.ensures.value)

pub returns-then-not-is_reached-clause-exact : goal.returns-then-not-is_reached-clause-exact
returns-then-not-is_reached-clause-exact g c =
    let within : c.loop-rule.rule < length c.args.least.now =
    omega (arith, c.loop-rule-test.true, c.to_usize-rules_len.ensures.value, c.rules_len.ensures.value, c.requires.least) in
    ((λ h. absurd (true≢false (sym h))), (λ each. sym c.if-not-is_reached.true ∙ c.is_reached.ensures.1 (each c.loop-rule.rule within)))

pub loop-rule-preserved : goal.loop-rule-preserved
loop-rule-preserved g c =
    below_more (IsReached (g.T.Tables.grammar c.args.grm.now) c.args.costs.now c.args.least.now (map (choice_of g.S.Storage.number) c.args.choices.now))
    c.loop-rule.rule c.loop-rule.invariant (c.is_reached.ensures.0 c.if-not-is_reached.false)

pub returns-clause-exact : goal.returns-clause-exact
returns-clause-exact g c =
    let past : length c.args.least.now ≤ c.loop-rule.rule =
    omega (arith, c.loop-rule-test.false, c.to_usize-rules_len.ensures.value, c.rules_len.ensures.value, c.requires.least) in
    ((λ _ r h. c.loop-rule.invariant r (omega (arith, past, h))), (λ _. refl))

pub returns-clause-reached : goal.returns-clause-reached
returns-clause-reached g c =
    let past : length c.args.least.now ≤ c.loop-rule.rule =
    omega (arith, c.loop-rule-test.false, c.to_usize-rules_len.ensures.value, c.rules_len.ensures.value, c.requires.least) in
    λ _. certified_sentence (g.T.Tables.grammar c.args.grm.now) c.args.costs.now c.args.least.now (map (choice_of g.S.Storage.number) c.args.choices.now)
    (λ r h. c.loop-rule.invariant r (omega (arith, past, h)))
