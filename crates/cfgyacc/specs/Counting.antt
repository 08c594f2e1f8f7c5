-- Iterators that count: the indices from one number up to, and not including, another.
use Rattle.std.specs.Prelude.{◌≡◌, ℕ, ◌+◌, ◌-◌, ◌<◌, ◌≤◌, Option, Some, None, IfSome, true}
use Rattle.std.specs.Iterator.Runs.{Run, EveryRun}
use Rattle.std.specs.declared.ops.Range.{Range}

module _ {X : Type 0} (number : X → ℕ) where
  -- The first of the remaining numbers is next, and those after it remain; nothing is next exactly if none remain.
  abbrev pub CountsUp : Range ℕ → Option X → Range ℕ → Type 0
  CountsUp old None new = (old.end ≤ old.start) × (new ≡ old)
  CountsUp old (Some x) new = (number x ≡ old.start) × (old.start < old.end) × (new ≡ record { start = old.start + 1; end = old.end })

  -- the item at index k has the number a + k, which is less than b, and a run to the end has all of these numbers
  abbrev pub NumbersCountUp : {steps : Range ℕ → Option X → Range ℕ → Type 0} → Run steps → ℕ → ℕ → Type 0
  NumbersCountUp p a b = (p.len ≤ b - a) × (p.whole ≡ true → p.len ≡ b - a)
      × ((k : ℕ) → IfSome (p.at k) (λ x. (number x ≡ a + k) × (number x < b)))

  -- each run gives the numbers that its iterator had left, in order
  abbrev pub YieldsNumbersInOrder : Type 0
  YieldsNumbersInOrder = EveryRun CountsUp (λ p. NumbersCountUp p p.from.start p.from.end)
