use Rattle.std.proofs.Common.{refl}
use Rattle.cfgrammar.specs.NumberedSymbols.{sym_of}
use Rattle.generator_tools.proofs.Used.{none_left, one_left, used_after_rule, used_at_end, used_at_rule, used_at_start, used_at_token, unused_at_rule}
use Rattle.generator_tools.proofs.ll1.is_used_by_sets.Goals as goal

pub loop-symbol-init : goal.loop-symbol-init
loop-symbol-init g c = used_at_start _ _ _ _ _ _

pub returns-in-Token : goal.returns-in-Token
returns-in-Token g c =
    let left = one_left (sym_of g.S.Storage.number) _ _ _ _ c.loop-symbol-test.true c.symbol-item.is c.in-Token.is in
    let all = rw left at c.loop-symbol.invariant in
    let used = used_at_token _ _ _ _ _ _ _ _ all in
    let equal = c.tokens_are_their_numbers.ensures.equal c.in-Token.tidx c.args.token in
    let number = c.tokens_are_their_numbers.ensures.number c.in-Token.tidx c.args.token in (
      (λ h. used.1 (number.0 (equal.0 (rw (← c.eq.ensures) h)))),
      (λ h. rw c.eq.ensures (equal.1 (number.1 (used.0 h)))),
    )

pub returns-then-is_set : goal.returns-then-is_set
returns-then-is_set g c =
    let left = one_left (sym_of g.S.Storage.number) _ _ _ _ c.loop-symbol-test.true c.symbol-item.is c.in-Rule.is in
    let all = rw left at c.loop-symbol.invariant in
    ((λ h. used_at_rule _ _ _ _ _ _ _ _ all (c.is_set.ensures.0 c.if-is_set.true)), (λ h. refl))

pub returns-then-not-is_epsilon_set : goal.returns-then-not-is_epsilon_set
returns-then-not-is_epsilon_set g c =
    let left = one_left (sym_of g.S.Storage.number) _ _ _ _ c.loop-symbol-test.true c.symbol-item.is c.in-Rule.is in
    let all = rw left at c.loop-symbol.invariant in (
      (λ h. cc),
      (λ h. absurd (unused_at_rule _ _ _ _ _ _ _ _ all
          (λ begins. let on = c.is_set.ensures.1 begins in cc)
          (λ nullable. let on = c.is_epsilon_set.ensures.1 nullable in cc) h)),
    )

pub loop-symbol-preserved : goal.loop-symbol-preserved
loop-symbol-preserved g c =
    let left = one_left (sym_of g.S.Storage.number) _ _ _ _ c.loop-symbol-test.true c.symbol-item.is c.in-Rule.is in
    let all = rw left at c.loop-symbol.invariant in
    used_after_rule _ _ _ _ _ _ _ _ all
    (λ begins. let on = c.is_set.ensures.1 begins in cc)
    (c.is_epsilon_set.ensures.0 c.if-not-is_epsilon_set.false)

pub returns : goal.returns
returns g c =
    let left = none_left (sym_of g.S.Storage.number) _ _ c.loop-symbol-test.false in
    let used = used_at_end _ _ _ _ _ _ (rw left at c.loop-symbol.invariant) in
    ((λ h. used.1 (c.is_set-2.ensures.0 h)), (λ h. c.is_set-2.ensures.1 (used.0 h)))
