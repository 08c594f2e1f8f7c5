-- Carets begin under the first character of their span, and there are as many as characters show it.
use Rattle.std.proofs.Common.{◌≡◌, ℕ, ◌+◌, ◌-◌, ◌<◌, ◌≤◌, Bool, true, false, cond, if◌then◌else◌, List, [], ◌∷◌, length, length-append, take, drop, min, max, get_or, get_or-drop, length-take, length-drop, chars, ⊎_elim, subst, refl, ◌∙◌, ap, sym, arith}
use Rattle.std.proofs.Math.Seq.{take-add}
use Rattle.std.proofs.Math.Utf8.{encodes}
use Rattle.std.proofs.lemmas.Bool.{cases_eq, cases_lt}
use Rattle.std.proofs.lemmas.List.{get_or-take}
use Rattle.std.proofs.lemmas.List.Sums.{position_or_len_is, suffix_len-take_yes, suffix_len-le-length, sum_by-append}
use Rattle.std.proofs.lemmas.Str.{IsCharBoundary-before_ascii, IsUtf8-between, IsUtf8-nil, chars-nil, encodes-chars}
use Rattle.std.specs.List.{flat_map, slice_range, position_or_len, suffix_len}
use Rattle.std.specs.Str.{IsCharBoundary, IsUtf8}
use Rattle.cfgbase.specs.declared.span.Span.{Span}
use Rattle.cfglines.specs.Characters.{begins_character}
use Rattle.cfglines.proofs.Characters.{characters_begin}
use Rattle.cfglines.specs.Lines.{character_count, column, ends_crlf, is_newline, line_end, line_start}
use Rattle.cfglines.proofs.LineEnds.{is_other, line_start-suffix_len, line_start-le, line_end-position}
use Rattle.cfglines.proofs.LinePrefixes.{line_begins, line_prefix_is}
use Rattle.cfgrender.specs.Render.{carets, ceil_char_boundary, characters, line_at, line_stop, offset_in_line, shown_prefix, shown_span, skipped, under_prefix, window_end, window_start}
use Rattle.cfgrender.specs.Visible.{shown_as, visible}
use Rattle.cfgrender.proofs.Boundaries.{ceil_boundary, min_boundary}
use Rattle.cfgrender.proofs.Carets.{prefix_as_wide, span_as_wide}
use Rattle.cfgrender.proofs.Cuts.{boundary_begins, boundary_from_begins, characters-take-le, cut_first, take_take}
use Rattle.cfgrender.proofs.Shown.{chars-visible, shown_some}
use Rattle.cfgrender.proofs.Windows.{skipped-le, window_before, window_end_boundary, window_start_boundary}
use Rattle.cfgrender.proofs.LineStops.{line_end_bounds, line_stop_ends, crlf_bytes}

-- this many characters precede one in its line
before : (text : List ℕ) (b : ℕ) → IsUtf8 text → IsCharBoundary text b
    → characters (slice_range text (line_start text b) b) + 1 ≡ character_count text b
before text b utf8 offset =
    let begins = line_begins text b utf8 offset.0 in
    let piece = IsUtf8-between text (line_start text b) b utf8 (line_start-le text b) begins offset in
    ap (λ n. n + 1) (characters_begin _ piece ∙ ap (λ prefix. length (chars prefix)) (sym (line_prefix_is text b offset.0)))

-- an offset other than that of an LF right after a CR is in the shown part of its line
shown_up_to : (text : List ℕ) (b : ℕ) → b ≤ length text → ends_crlf text b ≡ false → min b (line_stop text b) ≡ b
shown_up_to text b within other = by_its_end (ends_crlf text (line_end text b)) refl
  where
    end_if : Bool → ℕ
    end_if crlf = if crlf then line_end text b - 1 else line_end text b

    by_its_end : (crlf : Bool) → ends_crlf text (line_end text b) ≡ crlf → min b (end_if crlf) ≡ b
    by_its_end false _ = let bounds = line_end_bounds text b within in omega arith
    by_its_end true h = let bounds = line_end_bounds text b within in ⊎_elim
        (λ same. let here : ends_crlf text b ≡ true = ap (ends_crlf text) same ∙ h in cc)
        (λ differ. omega arith)
        (cases_eq b (line_end text b))

-- such an LF is in the same column as its CR
at_crlf : (text : List ℕ) (b : ℕ) → b ≤ length text → ends_crlf text b ≡ true
    → (line_start text (b - 1) ≡ line_start text b) × (min b (line_stop text b) ≡ b - 1)
at_crlf text b within h =
    let (some, newline, return) = crlf_bytes text b h in
    let more : suffix_len is_other (take b text) ≡ 1 + suffix_len is_other (take (b - 1) text) =
    suffix_len-take_yes is_other text b 0 some within (ap is_other return) in
    let here : position_or_len is_newline (drop b text) ≡ 0 =
    position_or_len_is is_newline (drop b text) 0 0 (omega arith) (λ k below. absurd (omega arith))
    (λ _. ap is_newline (get_or-drop b text 0 0 ∙ (ap (λ i. get_or text i 0) (omega arith) ∙ newline))) in
    let end : line_end text b ≡ b = omega (arith, line_end-position text b, length-take b text) in
    let shown : line_stop text b ≡ b - 1 = rw end (rw h refl) in (
      omega (
        arith,
        line_start-suffix_len text b,
        line_start-suffix_len text (b - 1),
        length-take b text,
        length-take (b - 1) text,
        suffix_len-le-length is_other (take (b - 1) text),
      ),
      omega arith,
    )

-- the same of the whole shown line
whole_begins_at_column : (text : List ℕ) (b : ℕ) → IsUtf8 text → IsCharBoundary text b
    → characters (slice_range text (line_start text b) (min b (line_stop text b))) + 1 ≡ column text b
unfolding column
whole_begins_at_column text b utf8 offset = by_column (ends_crlf text b) refl
  where
    by_column : (crlf : Bool) → ends_crlf text b ≡ crlf
        → characters (slice_range text (line_start text b) (min b (line_stop text b))) + 1
        ≡ (if crlf then character_count text (b - 1) else character_count text b)
    by_column false other =
        ap (λ n. characters (slice_range text (line_start text b) n) + 1)
        (shown_up_to text b offset.0 other)
        ∙ before text b utf8 offset
    by_column true h =
        let bytes = crlf_bytes text b h in
        let return = bytes.2 in
        let (start, shown) = at_crlf text b offset.0 h in
        let return_offset = IsCharBoundary-before_ascii text (b - 1) (omega arith) (omega arith) in
        ap (λ n. characters (slice_range text (line_start text b) n) + 1) shown
        ∙ (ap (λ n. characters (slice_range text n (b - 1)) + 1) (sym start)
        ∙ before text (b - 1) utf8 return_offset)

module _ (text : List ℕ) (b : ℕ) (utf8 : IsUtf8 text) (boundary : IsCharBoundary text b) where
  line_utf8 : IsUtf8 (line_at text b)
  line_utf8 =
      let ends = line_stop_ends text b boundary.0 in
      IsUtf8-between text (line_start text b) (line_stop text b) utf8 ends.0 (line_begins text b utf8 boundary.0) ends.1

  length_line : length (line_at text b) ≡ line_stop text b - line_start text b
  length_line =
      let ends = line_stop_ends text b boundary.0 in
      omega (arith, ends.0, ends.1.0, length-take (line_stop text b - line_start text b) (drop (line_start text b) text), length-drop (line_start text b) text)

  -- a boundary of the text is one of the line
  line_boundary : (i : ℕ) → line_start text b + i ≤ line_stop text b → IsCharBoundary text (line_start text b + i) → IsCharBoundary (line_at text b) i
  line_boundary i within there =
      let ends = line_stop_ends text b boundary.0 in
      boundary_from_begins (line_at text b) i (omega (arith, length_line, ends.0)) (λ less.
      let inside : i < line_stop text b - line_start text b = omega (arith, length_line) in
      let same : get_or (line_at text b) i 0 ≡ get_or text (line_start text b + i) 0 =
      get_or-take _ (drop (line_start text b) text) i 0 inside ∙ get_or-drop (line_start text b) text i 0 in
      subst (λ byte. begins_character byte ≡ true) (sym same) (boundary_begins text (line_start text b + i) there (omega (arith, ends.1.0))))

  pub offset_boundary : IsCharBoundary (line_at text b) (offset_in_line text b)
  offset_boundary =
      let ends = line_stop_ends text b boundary.0 in
      let start = line_start-le text b in
      ⊎_elim
      (λ less. line_boundary _ (omega arith) (subst (IsCharBoundary text) (omega arith) boundary))
      (λ more. line_boundary _ (omega (arith, ends.0)) (subst (IsCharBoundary text) (omega (arith, ends.0)) ends.1))
      (cases_lt b (line_stop text b))

  prefix_is : take (offset_in_line text b) (line_at text b) ≡ slice_range text (line_start text b) (min b (line_stop text b))
  prefix_is = take_take (offset_in_line text b) (line_stop text b - line_start text b) (drop (line_start text b) text) (omega arith)

first_count : (line : List ℕ) (start : ℕ) → characters (take (window_start line start) line) ≡ min (skipped line start) (characters line)
unfolding window_start
first_count line start = (cut_first (skipped line start) line).count

-- the characters before a span are those before its window, and the others
window_prefix : (line : List ℕ) (start : ℕ) → IsCharBoundary line start
    → characters (shown_prefix line start) + skipped line start ≡ characters (take start line)
window_prefix line start boundary =
    let first = window_start line start in
    let before = window_before line start boundary in
    let whole : characters (take (first + (start - first)) line) ≡ characters (take first line) + characters (take (start - first) (drop first line)) =
    ap characters (take-add first (start - first) line) ∙ sum_by-append (λ byte. cond (begins_character byte) 1 0) (take first line) (take (start - first) (drop first line)) in
    let all : characters (take (first + (start - first)) line) ≡ characters (take start line) = ap (λ n. characters (take n line)) (omega arith) in
    omega (arith, first_count line start, skipped-le line start, characters-take-le line start)

-- the shown part of a line before a span is text
prefix_utf8 : (text : List ℕ) (b : ℕ) → IsUtf8 text → IsCharBoundary text b → IsUtf8 (shown_prefix (line_at text b) (offset_in_line text b))
prefix_utf8 text b utf8 boundary =
    let line = line_at text b in
    let start = offset_in_line text b in
    let offset = offset_boundary text b utf8 boundary in
    IsUtf8-between line (window_start line start) start (line_utf8 text b utf8 boundary) (window_before line start offset) (window_start_boundary line start) offset

pub carets_begin_at_column : (text : List ℕ) (b : ℕ) → IsUtf8 text → IsCharBoundary text b
    → length (chars (shown_prefix (line_at text b) (offset_in_line text b))) + skipped (line_at text b) (offset_in_line text b) + 1 ≡ column text b
carets_begin_at_column text b utf8 boundary =
    let line = line_at text b in
    let start = offset_in_line text b in
    let parts = window_prefix line start (offset_boundary text b utf8 boundary) in
    let whole = whole_begins_at_column text b utf8 boundary in
    let prefix : characters (take start line) ≡ characters (slice_range text (line_start text b) (min b (line_stop text b))) =
    ap characters (prefix_is text b utf8 boundary) in
    let count = characters_begin (shown_prefix line start) (prefix_utf8 text b utf8 boundary) in
    omega (arith, parts, whole, prefix, count)

pub prefix_as_shown : (text : List ℕ) (b : ℕ) → IsUtf8 text → IsCharBoundary text b
    → let prefix = shown_prefix (line_at text b) (offset_in_line text b) in
    length (flat_map under_prefix (chars prefix)) ≡ length (chars (visible prefix))
prefix_as_shown text b utf8 boundary =
    let prefix = shown_prefix (line_at text b) (offset_in_line text b) in
    prefix_as_wide (chars prefix) ∙ sym (ap length (chars-visible prefix (prefix_utf8 text b utf8 boundary)))

-- the shown part of a span is text
shown_span_utf8 : (line : List ℕ) (start end : ℕ) → IsUtf8 line → IsCharBoundary line start → IsUtf8 (shown_span line start end)
shown_span_utf8 line start end utf8 begins =
    let stop = min (ceil_char_boundary line end) (window_end line start) in
    ⊎_elim
    (λ less. let none : stop - start ≡ 0 = omega arith in rw none IsUtf8-nil)
    (λ more. IsUtf8-between line start stop utf8 more begins
    (min_boundary line _ _ (ceil_boundary line end) (window_end_boundary line start)))
    (cases_lt stop start)

-- there is a caret unless there are no characters
some_carets : (characters : List ℕ) → 0 < length characters → 0 < length (flat_map shown_as characters)
some_carets [] some = absurd (omega arith)
some_carets (c ∷ characters) _ = omega (arith, shown_some c, length-append (shown_as c) (flat_map shown_as characters))

has_characters : (characters : List ℕ) (byte : ℕ) (bytes : List ℕ)
    → encodes characters ≡ byte ∷ bytes → 0 < length characters
has_characters [] byte bytes same = absurd (cc)
has_characters (c ∷ characters) byte bytes same = omega arith

carets_count : (piece : List ℕ) → IsUtf8 piece → length (carets piece) ≡ max 1 (length (chars (visible piece)))
carets_count [] utf8 = ap (λ characters. max 1 (length characters)) (sym (chars-visible [] utf8 ∙ ap (flat_map shown_as) chars-nil))
carets_count (byte ∷ bytes) utf8 =
    let count = span_as_wide (chars (byte ∷ bytes)) in
    let shown = ap length (chars-visible (byte ∷ bytes) utf8) in
    let some = some_carets (chars (byte ∷ bytes)) (has_characters _ byte bytes (encodes-chars (byte ∷ bytes) utf8)) in
    omega arith

pub carets_count_characters : (text : List ℕ) (span : Span) → IsUtf8 text → IsCharBoundary text span.start
    → let shown = shown_span (line_at text span.start) (offset_in_line text span.start) (span.end - line_start text span.start) in
    length (carets shown) ≡ max 1 (length (chars (visible shown)))
carets_count_characters text span utf8 starts =
    let b = span.start in
    carets_count _ (shown_span_utf8 (line_at text b) (offset_in_line text b) (span.end - line_start text b)
    (line_utf8 text b utf8 starts) (offset_boundary text b utf8 starts))
