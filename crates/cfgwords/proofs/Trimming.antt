-- Trimming makes no text longer.
use Rattle.std.proofs.Common.{◌≡◌, ℕ, ◌≤◌, Bool, true, false, cond, ◌&&◌, ◌==◌, List, [], ◌∷◌, length, ap, arith, length-append}
use Rattle.std.proofs.Math.Utf8.{encode, encodes, scalar, scalars}
use Rattle.std.specs.Char.{is_whitespace}
use Rattle.std.specs.Str.{IsUtf8, chars, trim_start, trim_end, skip_leading_whitespace, drop_trailing_whitespace, trim}
use Rattle.std.proofs.lemmas.Bool.{and_parts}
use Rattle.std.proofs.lemmas.Str.{chars-encodes, encodes-chars, scalars-chars}

skipped_shorter : (cs : List ℕ) → length (encodes (skip_leading_whitespace cs)) ≤ length (encodes cs)
skipped_shorter [] = omega arith
skipped_shorter (c ∷ cs) = go (is_whitespace c) (skipped_shorter cs)
  where
    go : (t : Bool) → length (encodes (skip_leading_whitespace cs)) ≤ length (encodes cs)
        → length (encodes (cond t (skip_leading_whitespace cs) (c ∷ cs))) ≤ length (encodes (c ∷ cs))
    go true ih = omega (arith, ih, length-append (encode c) (encodes cs))
    go false ih = omega arith

dropped_shorter : (cs : List ℕ) → length (encodes (drop_trailing_whitespace cs)) ≤ length (encodes cs)
dropped_shorter [] = omega arith
dropped_shorter (c ∷ cs) = go (is_whitespace c && length (drop_trailing_whitespace cs) == 0) (dropped_shorter cs)
  where
    go : (t : Bool) → length (encodes (drop_trailing_whitespace cs)) ≤ length (encodes cs)
        → length (encodes (cond t [] (c ∷ drop_trailing_whitespace cs))) ≤ length (encodes (c ∷ cs))
    go true ih = omega arith
    go false ih = omega (arith, ih, length-append (encode c) (encodes cs), length-append (encode c) (encodes (drop_trailing_whitespace cs)))

-- what trimming leaves consists of characters
skipped_scalars : (cs : List ℕ) → scalars cs ≡ true → scalars (skip_leading_whitespace cs) ≡ true
skipped_scalars [] h = h
skipped_scalars (c ∷ cs) h = go (is_whitespace c) (skipped_scalars cs (and_parts (scalar c) (scalars cs) h).1)
  where
    go : (t : Bool) → scalars (skip_leading_whitespace cs) ≡ true → scalars (cond t (skip_leading_whitespace cs) (c ∷ cs)) ≡ true
    go true further = further
    go false further = h

pub trim_no_longer : (text : List ℕ) → IsUtf8 text → length (trim text) ≤ length text
unfolding trim_start trim_end
trim_no_longer text utf8 = omega (
  arith,
  ap (λ cs. length (encodes (drop_trailing_whitespace cs))) (chars-encodes (skip_leading_whitespace (chars text)) (skipped_scalars (chars text) (scalars-chars text utf8))),
  dropped_shorter (skip_leading_whitespace (chars text)),
  skipped_shorter (chars text),
  ap length (encodes-chars text utf8),
)
