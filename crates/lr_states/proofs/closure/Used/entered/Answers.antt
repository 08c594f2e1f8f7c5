use Rattle.std.proofs.Common.{◌≡◌, ap, length, ◌∙◌}
use Rattle.search.proofs.Reaching.{less_to_do, popped_within}
use Rattle.search.specs.Reachable.{unsearched}
use Rattle.cfgrammar.specs.Numbered.{core}
use Rattle.lr_states.specs.Inner.Closure.{IsOn}
use Rattle.lr_states.proofs.Entered.{entered_as, entering_begins, entering_ends, entering_goes_on}
use Rattle.lr_states.proofs.closure.Used.entered.Goals as goal

pub loop-rule-init : goal.loop-rule-init
loop-rule-init c =
    let g = c.args.self.now.grammar.now in
    let count : c.from.result ≡ length g.rules = cc in
    entering_begins (core g) (IsOn c.args.self.now.bits) c.args.kernel.now (length g.rules) c.new-entered.result c.new-entered.ensures.empty
    c.in_ok-search.search _ (c.in_ok-search.ensures ∙ ap unsearched count) c.in_ok-reach_seeds.ensures

pub enter_rule-requires-clause-rule : goal.enter_rule-requires-clause-rule
enter_rule-requires-clause-rule c = popped_within _ _ _ _ _ _ c.next.new.self c.loop-rule.invariant.search c.in-Some.ensures.waiting

pub enter_rule-requires-clause-nodes : goal.enter_rule-requires-clause-nodes
enter_rule-requires-clause-nodes c = ap length c.in-Some.ensures.reachable ∙ c.loop-rule.invariant.search.shape

pub loop-rule-smaller : goal.loop-rule-smaller
loop-rule-smaller c = less_to_do _ _ _ _ _ c.in-Some.ensures.reachable c.in-Some.ensures.waiting c.in_ok-enter_rule.ensures.reaches

pub loop-rule-preserved : goal.loop-rule-preserved
loop-rule-preserved c = entering_goes_on (core c.args.self.now.grammar.now) (IsOn c.args.self.now.bits) c.args.kernel.now _ _ _ c.loop-rule.invariant _ c.next.new.self _
    c.in-Some.ensures.reachable c.in-Some.ensures.waiting c.in_ok-enter_rule.ensures.reaches _ c.in_ok-enter_rule.ensures.adds

pub returns : goal.returns
returns c p =
    let g = core c.args.self.now.grammar.now in
    let are = entering_ends g (IsOn c.args.self.now.bits) c.args.kernel.now _ _ _ c.loop-rule.invariant c.in_default.ensures.waiting p in (
      (λ h. entered_as g (λ q. (c.requires.used q).0) (are.0 h)),
      (λ e. are.1 (entered_as g (λ q. (c.requires.used q).1) e)),
    )
