-- The prefix of a line, from its start up to an offset, is a piece of the text.
use Rattle.std.proofs.Common.{◌≡◌, ℕ, ◌+◌, ◌-◌, ◌<◌, ◌≤◌, false, List, length, take, drop, get_or, reverse, chars, count_by, ⊎_elim, subst, ◌∙◌, ap, sym, arith}
use Rattle.std.proofs.lemmas.Bool.{cases_lt, eqb-true, not-false}
use Rattle.std.proofs.lemmas.List.{drop-take, get_or-reverse, get_or-take, length-reverse}
use Rattle.std.proofs.lemmas.List.Sums.{prefix_len_stops}
use Rattle.std.proofs.lemmas.Str.{IsCharBoundary-start, IsCharBoundary-after_ascii, IsUtf8-between}
use Rattle.std.specs.List.{slice_range, suffix_len}
use Rattle.std.specs.Str.{IsCharBoundary, IsUtf8}
use Rattle.cfglines.specs.Characters.{begins_character}
use Rattle.cfglines.specs.Lines.{character_count, line_prefix, line_start}
use Rattle.cfglines.proofs.Characters.{characters_begin}
use Rattle.cfglines.proofs.LineEnds.{is_other, line_start-suffix_len, line_start-le}

-- right before a line other than the first there is an LF
pub before_line_start : (text : List ℕ) (b : ℕ) → 0 < line_start text b → get_or text (line_start text b - 1) 0 ≡ 10
before_line_start text b after =
    let prefix = take b text in
    let n = suffix_len is_other prefix in
    let start = line_start-suffix_len text b in
    let short : n < length (reverse prefix) = omega (arith, length-reverse prefix) in
    let stop : is_other (get_or (reverse prefix) n 0) ≡ false = prefix_len_stops is_other (reverse prefix) 0 short in
    let offset : get_or (reverse prefix) n 0 ≡ get_or text (line_start text b - 1) 0 =
    get_or-reverse prefix n 0 (omega (arith, length-reverse prefix))
    ∙ (ap (λ i. get_or prefix i 0) (omega arith)
    ∙ get_or-take b text (line_start text b - 1) 0 (omega (arith, line_start-le text b))) in
    sym offset ∙ newline _ stop
  where
    newline : (byte : ℕ) → is_other byte ≡ false → byte ≡ 10
    newline byte h = eqb-true byte 10 (not-false _ h)

pub line_begins : (text : List ℕ) (b : ℕ) → IsUtf8 text → b ≤ length text → IsCharBoundary text (line_start text b)
line_begins text b utf8 within =
    let start = line_start-le text b in
    ⊎_elim
    (λ after. let newline = before_line_start text b after in
    let boundary = IsCharBoundary-after_ascii text (line_start text b - 1) utf8 (omega arith) (omega arith) in
    subst (IsCharBoundary text) (omega arith) boundary)
    (λ first. subst (IsCharBoundary text) (omega arith) (IsCharBoundary-start text utf8))
    (cases_lt 0 (line_start text b))

-- the prefix of an offset's line goes from the line's start up to the offset
pub line_prefix_is : (text : List ℕ) (b : ℕ) → b ≤ length text → line_prefix text b ≡ slice_range text (line_start text b) b
unfolding line_prefix
line_prefix_is text b within =
    let start = line_start-le text b in
    ap (λ n. drop n (take b text)) (sym (line_start-suffix_len text b))
    ∙ (ap (λ n. drop (line_start text b) (take n text)) (omega arith)
    ∙ drop-take (line_start text b) (b - line_start text b) text)

-- this many characters begin in that prefix
pub prefix_begins : (text : List ℕ) (b : ℕ) → IsUtf8 text → IsCharBoundary text b
    → count_by begins_character (slice_range text (line_start text b) b) + 1 ≡ character_count text b
prefix_begins text b utf8 offset =
    let begins = line_begins text b utf8 offset.0 in
    let piece = IsUtf8-between text (line_start text b) b utf8 (line_start-le text b) begins offset in
    ap (λ n. n + 1) (characters_begin _ piece ∙ ap (λ prefix. length (chars prefix)) (sym (line_prefix_is text b offset.0)))
