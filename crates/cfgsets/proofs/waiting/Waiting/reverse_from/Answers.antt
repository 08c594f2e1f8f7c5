use Rattle.std.proofs.Common.{◌++◌, drop, length, take, subst, sym, ap, ◌∙◌}
use Rattle.std.specs.List.Sorted.{IsPermutation}
use Rattle.std.proofs.Math.Seq.{take-append_seam}
use Rattle.std.proofs.lemmas.List.Sorted.{length_permutation}
use Rattle.cfgsets.specs.Waiting.{IsStack}
use Rattle.cfgsets.proofs.Stacking.{stack_permuted}
use Rattle.cfgsets.proofs.waiting.Waiting.reverse_from.Goals as goal

pub invariant_of-self : goal.invariant_of-self
invariant_of-self c =
    let old = c.self.inside.stack.items in
    let new = c.reverse_part.new.numbers in
    let permuted = subst (λ l. IsPermutation l new) c.as_mut_slice.ensures.value c.reverse_part.ensures in
    let long = c.self.inside.stack.ok.0 ∙ sym (length_permutation old new permuted) in (
      subst (IsStack c.self.inside.bits) (sym (ap (λ n. take n (new ++ drop (length new) old)) long ∙ take-append_seam new (drop (length new) old)))
          (stack_permuted _ _ _ c.self.invariant.0 permuted),
      c.self.invariant.1,
    )
