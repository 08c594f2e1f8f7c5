use Rattle.std.proofs.Common.{◌≡◌, ◌+◌, ◌<◌, ℕ, Option, Some, inl, inr, arith, ap, false, subst, ◌∙◌}
use Rattle.std.specs.declared.ops.Range.{Range}
use Rattle.std.proofs.lemmas.Bool.{cases_lt}
use Rattle.cfgrammar.specs.Counting.{CountsUp}
use Rattle.cfgrammar.specs.RIdx.{RIdx}
use Rattle.cfgfindings.specs.Inner.Unproductive.{UnproductiveOrNot}
use Rattle.cfgfindings.proofs.sentences.Unproductive.is_empty.Goals as goal

-- the next of the remaining numbers, if there is one, is the first of them
first_left : (old new : Range ℕ) (found : Option (RIdx ℕ)) (rule : RIdx ℕ) → found ≡ Some rule → CountsUp (λ (x : RIdx ℕ). x.0) old found new
    → (rule.0 ≡ old.start) × (old.start < old.end) × (new ≡ record { start = old.start + 1; end = old.end })
first_left old new found rule is steps = subst (λ o. CountsUp (λ (x : RIdx ℕ). x.0) old o new) is steps

pub loop-rule-preserved : goal.loop-rule-preserved
loop-rule-preserved c =
    let old = c.loop-rule.rule-iterator in
    let (first, some, left) = first_left old c.next.new.self c.next.result c.in-Some.rule c.in-Some.is c.next.ensures.steps in
    let start : c.next.new.self.start ≡ old.start + 1 = ap (λ (x : Range ℕ). x.start) left in
    let end : c.next.new.self.end ≡ old.end = ap (λ (x : Range ℕ). x.end) left in
    record {
      all = end ∙ c.loop-rule.invariant.all;
      within = omega (arith, start, end, some);
      productive = λ r below. elim (cases_lt r old.start) [
        | inl before ↦ c.loop-rule.invariant.productive r before
        | inr past ↦
            let same : c.in-Some.rule.0 ≡ r = omega (arith, first, start, below, past) in
            subst (λ n. UnproductiveOrNot c.args.self.now n false) same c.if-contains.ensures
      ];
    }
