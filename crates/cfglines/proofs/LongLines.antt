-- How long the lines of a text are, by the offsets of its newlines.
use Rattle.std.proofs.Common.{◌≡◌, ℕ, zero, suc, ◌+◌, ◌-◌, ◌<◌, ◌≤◌, ltb-true, lt-ltb, List, map, length, take, drop, get_or, ⊎_elim, ap, sym, refl, length-append, length-take, arith}
use Rattle.std.proofs.lemmas.Bool.{cases_lt, le-ltb}
use Rattle.std.proofs.lemmas.List.{get_or_default, get_or_past}
use Rattle.cfglines.specs.Lines.{line_start, newlines_of}
use Rattle.cfglines.proofs.LineEnds.{line_end-position, line_end_is, line_start_none, line_start_some}
use Rattle.cfglines.proofs.Newlines.{IsPartitionedBy-newlines_of, newlines_of-partition_point, newlines_of-split, newlines_of-within}

-- where the line begins that newline i ends
abbrev pub begin_of : List ℕ → ℕ → ℕ
begin_of newlines zero = 0
begin_of newlines (suc i) = get_or newlines i 0 + 1

begin_of-after : (newlines : List ℕ) (i : ℕ) → 0 < i → get_or newlines (i - 1) 0 < begin_of newlines i
begin_of-after newlines zero after = absurd (omega arith)
begin_of-after newlines (suc i) after = let same : get_or newlines (suc i - 1) 0 ≡ get_or newlines i 0 = ap (λ k. get_or newlines k 0) (omega arith) in omega arith

module _ (text : List ℕ) where
  line_start-begin_of : (b i : ℕ) → length (newlines_of (take b text)) ≡ i → line_start text b ≡ begin_of (newlines_of text) i
  line_start-begin_of b zero before = line_start_none text b before
  line_start-begin_of b (suc i) before = line_start_some text b i (omega arith)

  sorted : (i j : ℕ) → i ≤ j → j < length (newlines_of text) → get_or (newlines_of text) i 0 ≤ get_or (newlines_of text) j 0
  sorted i j order within =
      let below : get_or (newlines_of text) i 0 < get_or (newlines_of text) j 0 + 1 =
      ltb-true _ _ (IsPartitionedBy-newlines_of text (get_or (newlines_of text) j 0 + 1) i j 0 order within (lt-ltb _ _ (omega arith))) in
      omega arith

  -- an offset is in the line that newline i ends, if it lies after the newline before and not after that one
  line_of : (b i : ℕ) → i ≤ length (newlines_of text) → (0 < i → get_or (newlines_of text) (i - 1) 0 < b)
      → (i < length (newlines_of text) → b ≤ get_or (newlines_of text) i 0) → line_start text b ≡ begin_of (newlines_of text) i
  line_of b i within after before =
      let count : i ≡ length (newlines_of (take b text)) = newlines_of-partition_point text b i within (
        λ k d low high.
            let here = get_or_default (newlines_of text) k d 0 (omega arith) in
            let last = after (omega arith) in
            let order = sorted k (i - 1) (omega arith) (omega arith) in
            lt-ltb _ _ (omega arith),
        λ k d low high.
            let here = get_or_default (newlines_of text) k d 0 high in
            let next = before (omega arith) in
            let order = sorted i k low high in
            le-ltb _ _ (omega arith),
      ) in
      line_start-begin_of b i (sym count)

  pub long_line : (bytes i : ℕ) → i < length (newlines_of text) → begin_of (newlines_of text) i + bytes < get_or (newlines_of text) i 0
      → (get_or (newlines_of text) i 0 ≤ length text) × (line_start text (get_or (newlines_of text) i 0) + bytes < get_or (newlines_of text) i 0)
  long_line bytes i within long =
      let start = line_of (get_or (newlines_of text) i 0) i (omega arith) (λ after. omega (arith, begin_of-after (newlines_of text) i after)) (λ _. omega arith) in
      (omega (arith, newlines_of-within text i 0 within), omega arith)

  pub long_end : (bytes : ℕ) → begin_of (newlines_of text) (length (newlines_of text)) + bytes < length text
      → line_start text (length text) + bytes < length text
  long_end bytes long =
      let count = length (newlines_of text) in
      let start = line_of (length text) count (omega arith) (λ after. newlines_of-within text (count - 1) 0 (omega arith)) (λ h. absurd (omega arith)) in
      omega arith

  pub short_lines : (bytes : ℕ) → ((i : ℕ) → i < length (newlines_of text) → get_or (newlines_of text) i 0 ≤ begin_of (newlines_of text) i + bytes)
      → length text ≤ begin_of (newlines_of text) (length (newlines_of text)) + bytes
      → (b : ℕ) → b ≤ length text → b ≤ line_start text b + bytes
  short_lines bytes lines last b within =
      let i = length (newlines_of (take b text)) in
      let start = line_start-begin_of b i refl in
      let end : b ≤ get_or (newlines_of text) i (length text) =
      omega (arith, line_end_is text b, line_end-position text b, length-take b text) in
      let bound : i ≤ length (newlines_of text) = omega (arith, ap length (newlines_of-split text b), length-append (newlines_of (take b text)) (map (λ offset. length (take b text) + offset) (newlines_of (drop b text)))) in
      ⊎_elim
      (λ (h : i < length (newlines_of text)). let same = get_or_default (newlines_of text) i (length text) 0 h in omega (arith, lines i h))
      (λ (h : length (newlines_of text) ≤ i). let same = get_or_past (newlines_of text) i (length text) h in
      let e : i ≡ length (newlines_of text) = omega arith in
      let at_end = ap (begin_of (newlines_of text)) e in omega arith)
      (cases_lt i (length (newlines_of text)))
