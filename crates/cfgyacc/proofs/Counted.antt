-- What runs of a counting iterator give.
use Rattle.std.proofs.Common.{◌≡◌, sym, subst, ap, ◌∙◌, arith, ℕ, zero, suc, ◌+◌, ◌-◌, ◌<◌, ◌≤◌, List, [], ◌∷◌, length, IfSome}
use Rattle.std.specs.Iterator.{Yields}
use Rattle.std.specs.List.{slice_get}
use Rattle.std.specs.declared.ops.Range.{Range}
use Rattle.std.proofs.iter.runs.Lists.{at_some}
use Rattle.std.proofs.iter.runs.Made.{took, at-is}
use Rattle.cfgyacc.specs.Counting.{CountsUp, YieldsNumbersInOrder}

module _ {X : Type 0} (number : X → ℕ) where
  abbrev IsAt : Range ℕ → ℕ → X → Type 0
  IsAt s k x = (number x ≡ s.start + k) × (number x < s.end)

  abbrev EachAt : Range ℕ → List X → Type 0
  EachAt s xs = (k : ℕ) → IfSome (slice_get xs k) (IsAt s k)

  counted : (xs : List X) (s t : Range ℕ) → Yields (CountsUp number) s xs t
      → (t.end ≡ s.end) × (t.start ≡ s.start + length xs) × (length xs ≤ s.end - s.start) × EachAt s xs
  counted [] s t y = (sym (ap (λ (r : Range ℕ). r.end) y), omega (arith, ap (λ (r : Range ℕ). r.start) y), omega arith, λ k. tt)
  counted (x ∷ xs) s t y =
      let rest = counted xs y.0 t y.2 in
      (rest.0 ∙ end, omega (arith, rest.1, start), omega (arith, rest.2, y.1.1, start, end), each rest.3)
    where
      start : y.0.start ≡ s.start + 1
      start = ap (λ (r : Range ℕ). r.start) y.1.2

      end : y.0.end ≡ s.end
      end = ap (λ (r : Range ℕ). r.end) y.1.2

      each : EachAt y.0 xs → EachAt s (x ∷ xs)
      each rest zero = omega (arith, y.1.0, y.1.1)
      each rest (suc k) = at_some (slice_get xs k) _ (λ z e. omega (arith, subst (λ o. IfSome o (IsAt y.0 k)) e (rest k), start, end))

  pub numbers_in_order : YieldsNumbersInOrder number
  numbers_in_order p _ =
      let run = counted p.items p.from (took p).0 (took p).1 in (
        omega (arith, p.long, run.2),
        (λ whole. omega (arith, p.long, run.0, run.1, run.2, ((took p).2 whole).1.0)),
        λ k. subst (λ o. IfSome o (IsAt p.from k)) (sym (at-is p k)) (run.3 k),
      )
