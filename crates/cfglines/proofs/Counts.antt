-- Counts of the characters that begin in a text, step by step.
use Rattle.std.proofs.Common.{◌≡◌, ℕ, ◌+◌, ◌-◌, ◌*◌, ◌<◌, ◌≤◌, cond, List, [], ◌∷◌, ◌++◌, length, take, drop, get_or, count_by, min, ⊎_elim, length-append, length-take, append-nil, below_more, ap, sym, refl, ◌∙◌, arith}
use Rattle.std.proofs.Math.Seq.{drop-append_seam, take-add, take-append_seam}
use Rattle.std.proofs.lemmas.Bool.{cases_lt}
use Rattle.std.proofs.lemmas.List.{drop-drop, drop_all, take_all, get_or_append_left, get_or_push, length_push, nil_from_length}
use Rattle.std.proofs.lemmas.List.Sums.{count_by-le-length, sum_by-append}
use Rattle.std.specs.List.{slice_range}
use Rattle.cfglines.specs.Characters.{begins_character, step}

abbrev begun : List ℕ → ℕ
begun bytes = count_by begins_character bytes

-- what begins in the first j bytes begins in the first i, or from i up to j
pub begun_up_to : (text : List ℕ) (i j : ℕ) → i ≤ j
    → count_by begins_character (take i text) + count_by begins_character (slice_range text i j) ≡ count_by begins_character (take j text)
begun_up_to text i j order =
    let parts : take j text ≡ take i text ++ take (j - i) (drop i text) = ap (λ n. take n text) (omega arith) ∙ take-add i (j - i) text in
    sym (ap begun parts ∙ sum_by-append (λ byte. cond (begins_character byte) 1 0) (take i text) (take (j - i) (drop i text)))

pub begun-le : (text : List ℕ) (i : ℕ) → count_by begins_character (take i text) ≤ i
begun-le text i = omega (arith, count_by-le-length begins_character (take i text), length-take i text)

-- the counts so far, the last of which is for what precedes the rest
pub record CountedTo (text rest counts : List ℕ) (last : ℕ) : Type 0 where
  pub some : 0 < length counts
  pub rest_is : rest ≡ drop ((length counts - 1) * step) text
  pub last_is : last ≡ count_by begins_character (take ((length counts - 1) * step) text)
  pub each : (k : ℕ) → k < length counts → get_or counts k 0 ≡ count_by begins_character (take (k * step) text)

-- a piece is one step long, or the last
piece_is : (piece rest left : List ℕ) → rest ≡ piece ++ left → length piece ≡ min step (length rest)
    → (piece ≡ take step rest) × (left ≡ drop step rest)
piece_is piece rest left parts size =
    let sum = ap length parts ∙ length-append piece left in
    ⊎_elim
    (λ short.
    let none : left ≡ [] = nil_from_length left (omega arith) in
    let whole : rest ≡ piece = parts ∙ ap (λ l. piece ++ l) none ∙ append-nil piece in
    (sym whole ∙ sym (take_all step rest (omega arith)), none ∙ sym (drop_all step rest (omega arith))))
    (λ long.
    let full : length piece ≡ step = omega arith in
    let prefix = take-append_seam piece left in
    let back = drop-append_seam piece left in
    (cc, cc))
    (cases_lt (length rest) step)

pub counted_more : (text rest counts : List ℕ) (last : ℕ) (piece left : List ℕ) → CountedTo text rest counts last
    → rest ≡ piece ++ left → length piece ≡ min step (length rest)
    → CountedTo text left (counts ++ (last + count_by begins_character piece) ∷ []) (last + count_by begins_character piece)
counted_more text rest counts last piece left counted parts size =
    let some = counted.some in
    let done = (length counts - 1) * step in
    let (prefix, back) = piece_is piece rest left parts size in
    let longer : done + step ≡ length counts * step = omega arith in
    let more : last + begun piece ≡ begun (take (length counts * step) text) =
    ap (λ n. n + begun piece) counted.last_is
    ∙ (ap (λ bytes. begun (take done text) + begun bytes) (prefix ∙ ap (take step) counted.rest_is)
    ∙ (sym (sum_by-append (λ byte. cond (begins_character byte) 1 0) (take done text) (take step (drop done text)))
    ∙ (ap begun (sym (take-add done step text))
    ∙ ap (λ n. begun (take n text)) longer))) in
    let pushed = length_push counts (last + begun piece) in
    let next : length (counts ++ (last + begun piece) ∷ []) - 1 ≡ length counts = omega arith in
    record {
      some = omega arith;
      rest_is = back ∙ ap (drop step) counted.rest_is ∙ drop-drop step done text
          ∙ ap (λ n. drop n text) (longer ∙ ap (λ n. n * step) (sym next));
      last_is = more ∙ ap (λ n. begun (take (n * step) text)) (sym next);
      each = rw pushed (below_more _ _
          (λ k h. get_or_append_left counts _ 0 k h ∙ counted.each k h)
          (get_or_push counts (last + begun piece) 0 (length counts) refl ∙ more));
    }
