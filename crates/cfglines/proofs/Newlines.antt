-- Facts about the offsets of a text's newlines.
use Rattle.std.proofs.Common.{◌≡◌, ℕ, suc, ◌+◌, ◌-◌, ◌<◌, ◌≤◌, Bool, true, false, cond, ltb, ltb-true, ltb-false, lt-ltb, if◌then◌else◌, ⊎_elim, List, [], ◌∷◌, ◌++◌, map, length, take, drop, get_or, All, count_by, sym, ◌∙◌, ap, refl, append_assoc, take-append-drop, length-append, length-take, length-drop, lt_of_le_of_lt, arith}
use Rattle.std.proofs.lemmas.List.{map-append, length-map, get_or_append_left, get_or-append_right}
use Rattle.std.proofs.lemmas.List.Elements.{All-nil, All-append, All-map}
use Rattle.std.proofs.lemmas.List.Folds.{map_fixed}
use Rattle.std.proofs.lemmas.List.Sums.{sum_by-cons}
use Rattle.std.proofs.lemmas.Bool.{cases_lt, cases_order}
use Rattle.std.proofs.lemmas.Grind.{common_steps}
use Rattle.std.specs.List.Sorted.{IsPartitionPoint, IsPartitionedBy}
use Rattle.cfglines.specs.Lines.{Kept, StandsFor, is_newline, newlines_of}

map-suc-add : (n : ℕ) (positions : List ℕ) → map suc (map (λ offset. n + offset) positions) ≡ map (λ offset. suc n + offset) positions
map-suc-add n [] = refl
map-suc-add n (offset ∷ positions) =
    let here : suc (n + offset) ≡ suc n + offset = omega arith in
    let others = map-suc-add n positions in cc

pub newlines_of-append : (prefix back : List ℕ)
    → newlines_of (prefix ++ back) ≡ newlines_of prefix ++ map (λ offset. length prefix + offset) (newlines_of back)
unfolding newlines_of
newlines_of-append [] back = sym (map_fixed (λ offset. 0 + offset) (newlines_of back) (λ k d within. omega arith))
newlines_of-append (byte ∷ prefix) back =
    rw (newlines_of-append prefix back, map-append, map-suc-add (length prefix), append_assoc) refl

-- the offsets in what precedes b, and then those from b on
pub newlines_of-split : (text : List ℕ) (b : ℕ)
    → newlines_of text ≡ newlines_of (take b text) ++ map (λ offset. length (take b text) + offset) (newlines_of (drop b text))
newlines_of-split text b = ap newlines_of (sym (take-append-drop b text)) ∙ newlines_of-append (take b text) (drop b text)

pub length-newlines_of : (text : List ℕ) → length (newlines_of text) ≡ count_by is_newline text
unfolding newlines_of
length-newlines_of [] = refl
length-newlines_of (byte ∷ text) =
    simp (length-append, length-map, sum_by-cons (λ x. cond (is_newline x) 1 0), length-newlines_of text) (one (is_newline byte) _)
  where
    one : (b : Bool) (n : ℕ) → length {A = ℕ} (if b then 0 ∷ [] else []) + n ≡ cond b 1 0 + n
    one true n = refl
    one false n = refl

-- a newline is one of the text's bytes
pub newlines_of-within : (text : List ℕ) → All (λ offset. offset < length text) (newlines_of text)
unfolding newlines_of
newlines_of-within [] = All-nil _
newlines_of-within (byte ∷ text) =
    All-append (λ offset. offset < suc (length text)) (if is_newline byte then 0 ∷ [] else []) _ (one (is_newline byte))
    (All-map (λ offset. offset < suc (length text)) suc (newlines_of text)
    (λ k d h. let below = newlines_of-within text k d h in omega arith))
  where
    one : (b : Bool) → All (λ offset. offset < suc (length text)) (if b then 0 ∷ [] else [])
    one true = λ k d h. grind (arith, common_steps)
    one false = All-nil _

-- offsets below b come first, so a bisection finds how many there are
module _ (prefix back : List ℕ) (b : ℕ) (below : All (λ offset. offset < b) prefix) (above : All (λ offset. b ≤ offset) back) where
  pub IsPartitionedBy-append : IsPartitionedBy (λ offset. ltb offset b) (prefix ++ back)
  IsPartitionedBy-append i j d i_le_j within passes = ⊎_elim
      (λ (h : j < length prefix). rw (get_or_append_left prefix back d i (lt_of_le_of_lt i_le_j h)) (lt-ltb _ _ (below i d (lt_of_le_of_lt i_le_j h))))
      (λ (h : length prefix ≤ j).
      let small : get_or (prefix ++ back) j d < b = ltb-true _ _ passes in
      let offset = get_or-append_right prefix back (length prefix) j d refl h in
      let large : b ≤ get_or back (j - length prefix) d = above (j - length prefix) d (omega (arith, length-append prefix back)) in
      absurd (omega arith))
      (cases_lt j (length prefix))

  pub partition_point-append : (i : ℕ) → i ≤ length (prefix ++ back)
      → IsPartitionPoint (λ offset. ltb offset b ≡ true) (λ offset. ltb offset b ≡ false) (prefix ++ back) i → i ≡ length prefix
  partition_point-append i within point = ⊎_elim
      (λ (e : i ≡ length prefix). e)
      (⊎_elim
      (λ (h : i < length prefix).
      let large : b ≤ get_or (prefix ++ back) i 0 = ltb-false _ _ (point.1 i 0 (omega arith) (omega (arith, length-append prefix back))) in
      let offset = get_or_append_left prefix back 0 i h in
      let small : get_or prefix i 0 < b = below i 0 h in
      absurd (omega arith))
      (λ (h : length prefix < i).
      let small : get_or (prefix ++ back) (length prefix) 0 < b = ltb-true _ _ (point.0 (length prefix) 0 (omega arith) h) in
      let offset = get_or-append_right prefix back (length prefix) (length prefix) 0 refl (omega arith) in
      let large : b ≤ get_or back (length prefix - length prefix) 0 = above (length prefix - length prefix) 0 (omega (arith, length-append prefix back)) in
      absurd (omega arith)))
      (cases_order i (length prefix))

-- the newlines before b, and those from b on
module _ (text : List ℕ) (b : ℕ) where
  abbrev prefix : List ℕ
  prefix = newlines_of (take b text)

  abbrev back : List ℕ
  back = map (λ offset. length (take b text) + offset) (newlines_of (drop b text))

  prefix_below : All (λ offset. offset < b) prefix
  prefix_below k d h = let within = newlines_of-within (take b text) k d h in omega (arith, length-take b text)

  back_above : All (λ offset. b ≤ offset) back
  back_above = All-map (λ offset. b ≤ offset) (λ offset. length (take b text) + offset) (newlines_of (drop b text)) (λ k d h.
      let within = newlines_of-within (drop b text) k d h in
      omega (arith, length-take b text, length-drop b text))

  pub IsPartitionedBy-newlines_of : IsPartitionedBy (λ offset. ltb offset b) (newlines_of text)
  IsPartitionedBy-newlines_of = rw (newlines_of-split text b) (IsPartitionedBy-append prefix back b prefix_below back_above)

  pub newlines_of-partition_point : (i : ℕ) → i ≤ length (newlines_of text)
      → IsPartitionPoint (λ offset. ltb offset b ≡ true) (λ offset. ltb offset b ≡ false) (newlines_of text) i → i ≡ length prefix
  newlines_of-partition_point i within point =
      partition_point-append prefix back b prefix_below back_above i
      (rw (newlines_of-split text b) at within) (rw (newlines_of-split text b) at point)

pub StandsFor-append : (cache : Kept) (before text : List ℕ) (len : ℕ) (positions : List ℕ) → StandsFor cache before → len ≡ cache.bytes + length text
    → positions ≡ cache.newlines ++ map (λ offset. cache.bytes + offset) (newlines_of text)
    → StandsFor (record { bytes = len; newlines = positions }) (before ++ text)
StandsFor-append cache before text len positions holds longer more =
    let bytes = holds.bytes in
    let newlines = holds.newlines in
    record {
      bytes = omega (arith, length-append before text);
      newlines = rw (newlines_of-append before text, ← bytes, ← newlines) more;
    }
