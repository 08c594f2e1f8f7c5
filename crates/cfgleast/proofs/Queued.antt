-- The top of the queue has the least sum.
use Rattle.std.proofs.Common.{ℕ, ◌≤◌, ◌≡◌, inl, inr, false, List, All, ap, ◌∙◌, true≢false, Less}
use Rattle.std.specs.declared.cmp.Reverse.{Reverse}
use Rattle.std.specs.Ordering.{is_lt, nat_cmp, ordering_then}
use Rattle.std.specs.Cmp.{nat_cmp_is}
use Rattle.std.specs.BinaryHeap.{IsUpperBound, lt_by_cmp}
use Rattle.std.proofs.lemmas.Bool.{cases_lt}
use Rattle.std.proofs.lemmas.List.Elements.{All-from_recursion, All-weaker}
use Rattle.cfgleast.specs.Inner.Queue.{sums_cmp}

not_less : (x y : Reverse (ℕ × ℕ)) → lt_by_cmp sums_cmp x y ≡ false → x.0.0 ≤ y.0.0
not_less x y h = elim (cases_lt y.0.0 x.0.0) [
  | inl lt ↦ absurd (true≢false (ap (λ o. is_lt (ordering_then o (nat_cmp y.0.1 x.0.1))) (nat_cmp_is y.0.0 x.0.0 Less lt) ∙ h))
  | inr le ↦ le
]

pub bound_least : (x : Reverse (ℕ × ℕ)) (xs : List (Reverse (ℕ × ℕ))) → IsUpperBound sums_cmp x xs → All (λ y. x.0.0 ≤ y.0.0) xs
bound_least x xs h = All-weaker (λ y. lt_by_cmp sums_cmp x y ≡ false) (λ y. x.0.0 ≤ y.0.0) (not_less x) xs
    (All-from_recursion (λ y. lt_by_cmp sums_cmp x y ≡ false) xs h)
