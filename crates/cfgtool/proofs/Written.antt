-- Loops over the indices of a list's elements, which write a text for each element.
use Rattle.std.proofs.Common.{◌≡◌, ℕ, ◌+◌, ◌<◌, ◌≤◌, List, ◌++◌, length, take, slice_get, option_map, sym, ap, ◌∙◌, append-nil, append_assoc, arith}
use Rattle.std.specs.List.{flat_map, enumerate_from}
use Rattle.std.specs.declared.ops.Range.{Range}
use Rattle.std.proofs.lemmas.List.{take_all}
use Rattle.std.proofs.lemmas.List.FromFn.{length-enumerate_from}
use Rattle.cfgrammar.proofs.Taken.{one_more_shown}
use Rattle.cfgtool.specs.TokenSets.{Adds}

-- the indices that are left are those of elements, and the texts of the elements before them come after what was written before
pub record AreWritten {A : Type 0} (text_of : ℕ × A → List ℕ) (elements : List A) (before : List ℕ) (left : Range ℕ) (lines : List ℕ) : Type 0 where
  pub all : left.end ≡ length elements
  pub within : left.start ≤ left.end
  pub reported : lines ≡ before ++ flat_map text_of (take left.start (enumerate_from 0 elements))

pub none_written : {A : Type 0} (text_of : ℕ × A → List ℕ) (elements : List A) (before : List ℕ) (left : Range ℕ)
    → left ≡ record { start = 0; end = length elements } → AreWritten text_of elements before left before
none_written text_of elements before left all =
    let start : left.start ≡ 0 = ap (λ (r : Range ℕ). r.start) all in
    record {
      all = ap (λ (r : Range ℕ). r.end) all;
      within = omega (arith, start);
      reported = sym (append-nil before) ∙ ap (λ k. before ++ flat_map text_of (take k (enumerate_from 0 elements))) (sym start);
    }

module _ {A : Type 0} (text_of : ℕ × A → List ℕ) (elements : List A) (before : List ℕ) (left : Range ℕ) (lines : List ℕ) (here : AreWritten text_of elements before left lines) where
  pub one_more_written : (next : Range ℕ) (index : ℕ) (new : List ℕ)
      → (index ≡ left.start) × (left.start < left.end) × (next ≡ record { start = left.start + 1; end = left.end })
      → Adds (option_map (λ x. text_of (index, x)) (slice_get elements index)) lines new → AreWritten text_of elements before next new
  one_more_written next index new (first, inside, after) (text, shown, added) =
      let start : next.start ≡ left.start + 1 = ap (λ (r : Range ℕ). r.start) after in
      let end : next.end ≡ left.end = ap (λ (r : Range ℕ). r.end) after in
      let first_shown = rw first at shown in
      let counted = enumerate_from 0 elements in
      record {
        all = end ∙ here.all;
        within = omega arith;
        reported = added ∙ ap (λ t. t ++ text) here.reported ∙ append_assoc before (flat_map text_of (take left.start counted)) text
            ∙ ap (λ t. before ++ t) (one_more_shown text_of elements left.start text first_shown ∙ ap (λ k. flat_map text_of (take k counted)) (sym start));
      }

  pub all_written : left.end ≤ left.start → lines ≡ before ++ flat_map text_of (enumerate_from 0 elements)
  all_written over =
      here.reported ∙ ap (λ t. before ++ flat_map text_of t)
      (take_all left.start (enumerate_from 0 elements) (omega (arith, over, here.all, length-enumerate_from 0 elements)))
