use Rattle.std.proofs.Common.{◌≡◌, ◌<◌, length, arith, ap, subst, ◌∙◌}
use Rattle.cfgrammar.specs.Numbered.{Numbered}
use Rattle.cfgfindings.specs.Inner.SinkGroups.{AreNeedsBelow}
use Rattle.cfgfindings.proofs.Needs.{rule_left_out, rule_put}
use Rattle.cfgfindings.proofs.sink_groups.own_steps.Goals as goal
use Rattle.cfgfindings.proofs.sink_groups.own_steps.Goals.{then-contains+in_ok-push, else-contains}

pub loop-rule-preserved : goal.loop-rule-preserved
loop-rule-preserved c =
    let g = c.args.unproductive.now in
    let mid = c.loop-rule.steps in
    let rule = c.loop-rule.rule in
    let before = c.loop-rule.invariant in
    let seen = ap (λ (n : Numbered). length n.rules) c.grammar-grammar.ensures in
    let within : rule < length mid = omega (arith, c.loop-rule-test.true, c.from-rules.ensures, c.rules_len.ensures, seen, before.entries) in
    elim c.if-contains.branch [
      | then-contains+in_ok-push w ↦
          rule_put g rule c.to_storage.result c.to_storage.ensures w.if-contains.ensures mid c.if-contains.steps w.step_to.result w.step_to.ensures within
          (w.steps-is ∙ w.in_ok-push.ensures.ok) before
      | else-contains w ↦ rule_left_out g rule c.to_storage.result c.to_storage.ensures w.if-contains.ensures mid c.if-contains.steps w.steps-is before
    ]

pub returns : goal.returns
returns c =
    let g = c.args.unproductive.now in
    let seen = ap (λ (n : Numbered). length n.rules) c.grammar-grammar.ensures in
    let all : c.loop-rule.rule ≡ length g.rules = omega (arith, c.loop-rule-test.false, c.loop-rule.auto.rule-end, c.from-rules.ensures, c.rules_len.ensures, seen) in
    subst (λ n. AreNeedsBelow g n 0 c.loop-rule.steps) all c.loop-rule.invariant
