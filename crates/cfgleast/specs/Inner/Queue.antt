-- Queues of sums, with the least first.
use Rattle.std.specs.Prelude.{ℕ, List}
use Rattle.std.specs.declared.cmp.Ordering.{Ordering}
use Rattle.std.specs.declared.cmp.Reverse.{Reverse}
use Rattle.std.specs.Ordering.{nat_cmp, ordering_then}
use Rattle.std.specs.BinaryHeap.{IsHeap}

-- what an element of the heap contains
abbrev pub entry_of : Reverse (ℕ × ℕ) → ℕ × ℕ
entry_of x = x.0

-- the order of the heap, in which the least sum is the greatest element
abbrev pub sums_cmp : Reverse (ℕ × ℕ) → Reverse (ℕ × ℕ) → Ordering
sums_cmp x y = ordering_then (nat_cmp y.0.0 x.0.0) (nat_cmp y.0.1 x.0.1)

-- the list is a heap in that order
abbrev pub IsQueue : List (Reverse (ℕ × ℕ)) → Type 0
IsQueue xs = IsHeap sums_cmp xs
