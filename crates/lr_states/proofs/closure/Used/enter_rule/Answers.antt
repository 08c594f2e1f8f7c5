use Rattle.std.proofs.Common.{◌≡◌, ◌<◌, ℕ, arith, get_or, length, subst}
use Rattle.std.proofs.lemmas.List.{get_or_default}
use Rattle.search.specs.Reachable.{Reaches}
use Rattle.search.proofs.Each.{each_all, each_more, each_none, found_mapped}
use Rattle.cfgrammar.specs.Numbered.{core}
use Rattle.lr_states.specs.Inner.Closure.{AddsTo, Begins, IsOn}
use Rattle.lr_states.proofs.Entered.{adds_all, adds_begin, adds_more}
use Rattle.lr_states.proofs.Rules.{enters_found, position_within}
use Rattle.lr_states.proofs.closure.Used.enter_rule.Goals as goal

pub loop-production-init : goal.loop-production-init
loop-production-init c = (each_none _ _, adds_begin (IsOn c.args.self.now.bits) c.productions_of-production-items.result.now _)

pub enter-requires-clause-within : goal.enter-requires-clause-within
enter-requires-clause-within c =
    let all = c.productions_of-production-items.result.now in
    position_within c.args.self.now.grammar.now c.args.rule all c.productions_of-production-items.ensures c.loop-production.production-index
    (get_or all c.loop-production.production-index (record { 0 = 0 })) (omega (arith, c.loop-production-test.true))
    (get_or_default all _ _ _ (omega (arith, c.loop-production-test.true))) c.from.result c.from.ensures

pub loop-production-preserved : goal.loop-production-preserved
loop-production-preserved c =
    let g = core c.args.self.now.grammar.now in
    let used = IsOn c.args.self.now.bits in
    let all = c.productions_of-production-items.result.now in
    let n = c.loop-production.production-index in
    let lt : n < length all = omega (arith, c.loop-production-test.true) in (
      each_more (λ p. Begins g used p.0) all n (get_or all n (record { 0 = 0 })) _ _ _ lt (get_or_default all n _ _ lt) c.loop-production.invariant.0
          (subst (λ p. Reaches (Begins g used p) c.loop-production.search c.enter.new.search) c.from.ensures c.in_ok-enter.ensures.reaches),
      adds_more used all n (get_or all n (record { 0 = 0 })) lt (get_or_default all n _ _ lt) _ _ _ c.loop-production.invariant.1
          (subst (λ p. AddsTo (λ (q : ℕ). (q ≡ p) × used q) c.loop-production.entered c.enter.new.entered) c.from.ensures c.in_ok-enter.ensures.adds),
    )

pub returns-clause-reaches : goal.returns-clause-reaches
returns-clause-reaches c = enters_found (core c.args.self.now.grammar.now) (IsOn c.args.self.now.bits) c.args.rule _ c.productions_of-production-items.ensures _ _
    (found_mapped (λ p. p.0) (Begins (core c.args.self.now.grammar.now) (IsOn c.args.self.now.bits)) c.productions_of-production-items.result.now _ _
    (each_all _ _ _ _ _ (omega (arith, c.loop-production-test.false, c.loop-production.auto.production-index-end)) c.loop-production.invariant.0))

pub returns-clause-adds : goal.returns-clause-adds
returns-clause-adds c =
    adds_all (IsOn c.args.self.now.bits) c.productions_of-production-items.result.now (core c.args.self.now.grammar.now) c.args.rule
    (λ p on. ((c.requires.used p).0 on).within) c.productions_of-production-items.ensures _
    (omega (arith, c.loop-production-test.false, c.loop-production.auto.production-index-end)) _ _ c.loop-production.invariant.1
