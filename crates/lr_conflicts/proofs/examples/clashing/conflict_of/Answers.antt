use Rattle.std.proofs.Common.{inl, inr, Contains, subst, sym, ◌∙◌, true≢false}
use Rattle.std.proofs.lemmas.List.{take_all}
use Rattle.cfgrammar.proofs.Contained.{contains_none}
use Rattle.cfgrammar.proofs.Taken.{contains_taken}
use Rattle.lr_conflicts.specs.Clashes.{IsIn}
use Rattle.lr_conflicts.proofs.examples.clashing.conflict_of.Goals as goal

pub loop-conflict-init : goal.loop-conflict-init
loop-conflict-init c = λ conflict h. absurd (contains_none conflict h)

pub loop-conflict-preserved : goal.loop-conflict-preserved
loop-conflict-preserved c = λ conflict h has.
    elim ((contains_taken c.args.conflicts.now c.loop-conflict.conflict-index c.conflict-item.result c.loop-conflict-test.true c.conflict-item.is conflict).0 h) [
      | inl before ↦ c.loop-conflict.invariant conflict before has
      | inr same ↦ true≢false (sym (c.is_in.ensures.1 (subst (λ y. IsIn c.args.grammar.now c.args.states.now y c.args.clash) same has)) ∙ c.if-is_in.false)
    ]

pub returns-then-is_in : goal.returns-then-is_in
returns-then-is_in c = ((c.loop-conflict.conflict-index, c.loop-conflict-test.true, sym c.conflict-item.is), c.is_in.ensures.0 c.if-is_in.true)

pub returns : goal.returns
returns c = λ conflict h. c.loop-conflict.invariant conflict
    (subst (λ l. Contains l conflict) (sym (take_all c.loop-conflict.conflict-index c.args.conflicts.now c.loop-conflict-test.false)) h)
