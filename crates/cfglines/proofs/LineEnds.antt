-- Where the lines of a text begin and end, by the offsets of its newlines.
use Rattle.std.proofs.Common.{⊎_elim, subst, get_or-append-add, ◌≡◌, ℕ, suc, ◌+◌, ◌-◌, ◌<◌, ◌≤◌, Bool, true, false, not, cond, if◌then◌else◌, List, [], ◌∷◌, ◌++◌, map, length, take, drop, get_or, ◌∙◌, ap, refl, length-take, length-drop, append-nil, add-zero, arith}
use Rattle.std.proofs.lemmas.List.{reverse-append, get_or_append_left, get_or_push, length_push, length-take-le, take_more}
use Rattle.std.proofs.Math.ListN.{get_or-map}
use Rattle.std.proofs.lemmas.List.Sums.{prefix_len-le-length, suffix_len-le-length}
use Rattle.std.proofs.lemmas.Bool.{cases_Bool}
use Rattle.std.specs.List.{prefix_len, suffix_len, position_or_len}
use Rattle.lemmas.proofs.Growing.{from_pushes}
use Rattle.cfglines.specs.Lines.{is_newline, newlines_of, line_prefix, line_start, line_end}
use Rattle.cfglines.proofs.Newlines.{newlines_of-append, newlines_of-split}

-- what one more byte adds to the offsets
pub newlines_of-newline : (text : List ℕ) (byte : ℕ) → is_newline byte ≡ true → newlines_of (text ++ byte ∷ []) ≡ newlines_of text ++ length text ∷ []
unfolding newlines_of
newlines_of-newline text byte h = rw (newlines_of-append text (byte ∷ []), h) (ap (λ n. newlines_of text ++ n ∷ []) (add-zero _))

pub newlines_of-other : (text : List ℕ) (byte : ℕ) → is_newline byte ≡ false → newlines_of (text ++ byte ∷ []) ≡ newlines_of text
unfolding newlines_of
newlines_of-other text byte h = rw (newlines_of-append text (byte ∷ []), h) (append-nil _)

pub newlines_of-take_newline : (text : List ℕ) (i : ℕ) → i < length text → is_newline (get_or text i 0) ≡ true
    → newlines_of (take (i + 1) text) ≡ newlines_of (take i text) ++ i ∷ []
newlines_of-take_newline text i within newline =
    rw (take_more text i 0 within, newlines_of-newline (take i text) (get_or text i 0) newline, length-take-le i text (omega arith)) refl

pub newlines_of-take_other : (text : List ℕ) (i : ℕ) → i < length text → is_newline (get_or text i 0) ≡ false
    → newlines_of (take (i + 1) text) ≡ newlines_of (take i text)
newlines_of-take_other text i within other =
    rw (take_more text i 0 within, newlines_of-other (take i text) (get_or text i 0) other) refl

abbrev pub is_other : ℕ → Bool
is_other byte = not (is_newline byte)

-- after the last newline come the bytes that end a text, none of which is a newline
record LastLine (text : List ℕ) : Type 0 where
  whole : length (newlines_of text) ≡ 0 → suffix_len is_other text ≡ length text
  after : (last : ℕ) → length (newlines_of text) ≡ last + 1
      → suffix_len is_other text + get_or (newlines_of text) last 0 + 1 ≡ length text

suffix_len_push : (text : List ℕ) (byte : ℕ) → suffix_len is_other (text ++ byte ∷ []) ≡ cond (is_other byte) (1 + suffix_len is_other text) 0
suffix_len_push text byte = ap (prefix_len is_other) (reverse-append text (byte ∷ []))

last_line_newline : (text : List ℕ) (byte : ℕ) → is_newline byte ≡ true → LastLine (text ++ byte ∷ [])
last_line_newline text byte h =
    let positions = newlines_of-newline text byte h in
    let len = length_push (newlines_of text) (length text) in
    let none : suffix_len is_other (text ++ byte ∷ []) ≡ 0 = suffix_len_push text byte ∙ rw h refl in
    record {
      whole = rw positions (λ none. absurd (omega arith));
      after = rw (positions, none, length_push text byte) (λ last some.
          let here = get_or_push (newlines_of text) (length text) 0 last (omega arith) in omega arith);
    }

last_line_other : (text : List ℕ) (byte : ℕ) → is_newline byte ≡ false → LastLine text → LastLine (text ++ byte ∷ [])
last_line_other text byte h line =
    let positions = newlines_of-other text byte h in
    let more : suffix_len is_other (text ++ byte ∷ []) ≡ 1 + suffix_len is_other text = suffix_len_push text byte ∙ rw h refl in
    record {
      whole = rw (positions, more, length_push text byte) (λ none. let rest = line.whole none in omega arith);
      after = rw (positions, more, length_push text byte) (λ last some. let rest = line.after last some in omega arith);
    }

no_newline : (last : ℕ) → length (newlines_of []) ≡ last + 1 → ⊥
unfolding newlines_of
no_newline last some = omega arith

last_line : (text : List ℕ) → LastLine text
last_line = from_pushes LastLine
    (record { whole = λ none. refl; after = λ last some. absurd (no_newline last some) })
    (λ text byte line. ⊎_elim (last_line_newline text byte) (λ h. last_line_other text byte h line) (cases_Bool (is_newline byte)))

pub line_start-suffix_len : (text : List ℕ) (b : ℕ) → line_start text b ≡ length (take b text) - suffix_len is_other (take b text)
unfolding line_start line_prefix
line_start-suffix_len text b = simp length-drop (omega (arith, suffix_len-le-length is_other (take b text)))

pub line_start-le : (text : List ℕ) (b : ℕ) → line_start text b ≤ b
line_start-le text b = let start = line_start-suffix_len text b in omega (arith, length-take b text)

pub line_start_none : (text : List ℕ) (b : ℕ) → length (newlines_of (take b text)) ≡ 0 → line_start text b ≡ 0
line_start_none text b none =
    let whole = (last_line (take b text)).whole none in
    let start = line_start-suffix_len text b in omega arith

pub line_start_some : (text : List ℕ) (b last : ℕ) → length (newlines_of (take b text)) ≡ last + 1 → line_start text b ≡ get_or (newlines_of text) last 0 + 1
line_start_some text b last some =
    let after = (last_line (take b text)).after last some in
    let start = line_start-suffix_len text b in
    let offset : get_or (newlines_of text) last 0 ≡ get_or (newlines_of (take b text)) last 0 =
    rw (newlines_of-split text b) (get_or_append_left (newlines_of (take b text)) _ 0 last (omega arith)) in
    omega arith

-- the same in a text with one more byte before it
first_newline-cons : (newline : Bool) (positions : List ℕ) (first n : ℕ) → first ≡ get_or positions 0 n
    → cond (not newline) (1 + first) 0 ≡ get_or ((if newline then 0 ∷ [] else []) ++ map suc positions) 0 (suc n)
first_newline-cons true positions first n h = refl
first_newline-cons false positions first n h = let offset = get_or-map suc positions 0 n in omega arith

first_newline : (text : List ℕ) → position_or_len is_newline text ≡ get_or (newlines_of text) 0 (length text)
unfolding newlines_of
first_newline [] = refl
first_newline (byte ∷ text) =
    first_newline-cons (is_newline byte) (newlines_of text) (position_or_len is_newline text) (length text) (first_newline text)

pub line_end-position : (text : List ℕ) (b : ℕ) → line_end text b ≡ length (take b text) + position_or_len is_newline (drop b text)
unfolding line_end
line_end-position text b = simp length-take (omega (arith, prefix_len-le-length is_other (drop b text)))

pub line_end_is : (text : List ℕ) (b : ℕ) → line_end text b ≡ get_or (newlines_of text) (length (newlines_of (take b text))) (length text)
line_end_is text b =
    let n = length (take b text) in
    let prefix = newlines_of (take b text) in
    let back = newlines_of (drop b text) in
    let whole : length text ≡ n + length (drop b text) = omega (arith, length-take b text, length-drop b text) in
    let here : get_or (newlines_of text) (length prefix) (length text) ≡ get_or (map (λ offset. n + offset) back) 0 (length text) =
    rw (newlines_of-split text b) (get_or_at_seam prefix _ (length text)) in
    let first : get_or (map (λ offset. n + offset) back) 0 (length text) ≡ n + get_or back 0 (length (drop b text)) =
    rw whole (get_or-map (λ offset. n + offset) back 0 (length (drop b text))) in
    let start = first_newline (drop b text) in
    let end = line_end-position text b in
    omega arith
  where
    get_or_at_seam : (xs ys : List ℕ) (d : ℕ) → get_or (xs ++ ys) (length xs) d ≡ get_or ys 0 d
    get_or_at_seam xs ys d = subst (λ n. get_or (xs ++ ys) n d ≡ get_or ys 0 d) (add-zero (length xs)) (get_or-append-add xs ys 0 d)
