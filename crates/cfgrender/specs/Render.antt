-- What is printed of an error: where it is and what it says, the line of the text, and carets under the span.
use Rattle.std.specs.Prelude.{ℕ, ◌+◌, ◌-◌, ◌*◌, ◌/◌, Bool, false, ◌&&◌, ◌==◌, nat_le, nat_lt, if◌then◌else◌, List, [], ◌∷◌, ◌++◌, fold, length, take, drop, slice_index, min, codes, unwrap_or}
use Rattle.std.specs.List.{count_by, flat_map, position_or_len, repeat, slice_range}
use Rattle.std.specs.Fmt.{decimal, take_chars}
use Rattle.std.specs.Str.{chars}
use Rattle.cfgbase.specs.declared.span.Span.{Span}
use Rattle.cfgbase.specs.declared.span.SpansKind.{SpansKind}
use Rattle.cfgbase.specs.declared.span.SpansKind.TheVariants.{DuplicationError, Error}
use Rattle.cfglines.specs.Characters.{begins_character}
use Rattle.cfglines.specs.Lines.{ends_crlf, line_number, line_start, line_end, column}
use Rattle.cfgrender.specs.Visible.{shown_as, visible}
use Rattle.cfgrender.specs.declared.column_unit.ColumnUnit.{ColumnUnit}
use Rattle.cfgrender.specs.declared.column_unit.ColumnUnit.TheVariants.{Bytes, Characters, Display}
use Rattle.unicode_width.specs.Width.{char_width}

-- whether b is a character boundary of the text: a character begins there, or the text ends
abbrev pub is_offset : List ℕ → ℕ → Bool
is_offset text b = nat_le b (length text) && begins_character (slice_index text b)

-- where b's line ends without its line end: before the LF that ends it, and before a CR right before that LF
abbrev pub line_stop : List ℕ → ℕ → ℕ
line_stop text b = if ends_crlf text (line_end text b) then line_end text b - 1 else line_end text b

-- b's line without its line end
abbrev pub line_at : List ℕ → ℕ → List ℕ
line_at text b = slice_range text (line_start text b) (line_stop text b)

-- where b is in that line; an LF right after a CR is where the CR is
abbrev pub offset_in_line : List ℕ → ℕ → ℕ
offset_in_line text b = min b (line_stop text b) - line_start text b

-- how many characters a piece of a text has
abbrev pub characters : List ℕ → ℕ
characters piece = count_by begins_character piece

-- a line of more characters than this is cut to a window of so many
abbrev pub window_width : ℕ
window_width = 160

-- a window begins so many characters before its span
abbrev pub window_lead : ℕ
window_lead = 40

-- how many characters of a line come before the window on it, for a span that starts at this offset of the line
unfoldable pub skipped : List ℕ → ℕ → ℕ
skipped line start = if nat_le (characters line) window_width then 0 else characters (take start line) - window_lead

-- where that window starts and ends
unfoldable pub window_start : List ℕ → ℕ → ℕ
window_start line start = length (take_chars (skipped line start) line)

unfoldable pub window_end : List ℕ → ℕ → ℕ
window_end line start = length (take_chars (skipped line start + window_width) line)

-- what is written where a line is cut
abbrev pub dots : Bool → List ℕ
dots cut = if cut then codes "..." else []

-- what is written below that
abbrev pub under_dots : Bool → List ℕ
under_dots cut = if cut then codes "   " else []

-- a line as it is shown, for a window from `start` up to `end`
abbrev pub shown_line : List ℕ → ℕ → ℕ → List ℕ
shown_line line start end = dots (nat_lt 0 start) ++ (visible (slice_range line start end) ++ dots (nat_lt end (length line)))

-- what is under a character before the span: a tab under a tab, and otherwise a space under each character that shows it
unfoldable pub under_prefix : ℕ → List ℕ
under_prefix c = if c == 9 then codes "\t" else repeat (length (shown_as c)) (codes " ")

-- what is under a character of the span: a caret under each character that shows it
unfoldable pub under_span : ℕ → List ℕ
under_span c = repeat (length (shown_as c)) (codes "^")

-- the carets under the shown part of a span: one if nothing of it is shown
abbrev pub carets : List ℕ → List ℕ
carets [] = codes "^"
carets (byte ∷ bytes) = flat_map under_span (chars (byte ∷ bytes))

-- the part of a line between the start of its window and that of the span
abbrev pub shown_prefix : List ℕ → ℕ → List ℕ
shown_prefix line start = slice_range line (window_start line start) start

-- where the first character from an offset of a line on begins, or the line's end if none does
abbrev pub ceil_char_boundary : List ℕ → ℕ → ℕ
ceil_char_boundary line b = length (take b line) + position_or_len begins_character (drop b line)

-- the part of a span that its line shows, where the span covers the bytes from `start` up to `end` of the line: whole characters
abbrev pub shown_span : List ℕ → ℕ → ℕ → List ℕ
shown_span line start end = slice_range line start (min (ceil_char_boundary line end) (window_end line start))

-- what is below a line
abbrev pub marks : List ℕ → ℕ → ℕ → List ℕ
marks line start end = under_dots (nat_lt 0 (window_start line start))
    ++ (flat_map under_prefix (chars (shown_prefix line start)) ++ carets (shown_span line start end))

-- a line and the carets below it
unfoldable pub marked_line : List ℕ → ℕ → ℕ → List ℕ
marked_line line start end = shown_line line (window_start line start) (window_end line start) ++ (codes "\n"
    ++ (marks line start end ++ codes "\n"))

-- the line where a span starts, and the carets below it
abbrev pub excerpt : List ℕ → Span → List ℕ
excerpt text span = marked_line (line_at text span.start) (offset_in_line text span.start) (span.end - line_start text span.start)

-- the part of b's line before b, without the CR of a line end
abbrev pub line_before : List ℕ → ℕ → List ℕ
line_before text b = slice_range text (line_start text b) (min b (line_stop text b))

-- the column of a terminal after a character, where so many are before it: a tab ends at the next multiple of 8
abbrev pub after_character : ℕ → ℕ → ℕ
after_character width c = if c == 9 then (width / 8 + 1) * 8 else width + unwrap_or (char_width false c) 0

-- how many columns of a terminal show these characters
abbrev pub display_width : List ℕ → ℕ
display_width characters = fold after_character 0 characters

-- the column of b in a unit, from 1
abbrev pub column_in : ColumnUnit → List ℕ → ℕ → ℕ
column_in Bytes text b = length (line_before text b) + 1
column_in Characters text b = column text b
column_in Display text b = display_width (chars (line_before text b)) + 1

-- What precedes a message: the text's name, and the line and the column, in this unit, of an offset that is a character boundary of the
-- text.
unfoldable pub heading : ColumnUnit → List ℕ → List ℕ → ℕ → List ℕ
heading unit name text b = if is_offset text b
    then visible name ++ (codes ":" ++ (decimal (line_number text b) ++ (codes ":" ++ (decimal (column_in unit text b) ++ codes ": "))))
    else visible name ++ codes ": "

-- a message as it is shown, and the end of its line
abbrev pub message_line : List ℕ → List ℕ
message_line message = visible message ++ codes "\n"

-- this message at a span: where it starts and, if that is a character boundary of the text, the excerpt
unfoldable pub reported : ColumnUnit → List ℕ → List ℕ → List ℕ → Span → List ℕ
reported unit name text words span = heading unit name text span.start
    ++ (message_line words ++ (if is_offset text span.start then excerpt text span else []))

-- a note at an offset: where that is and what the note says, without the line of the text
unfoldable pub note_line : ColumnUnit → List ℕ → List ℕ → List ℕ → ℕ → List ℕ
note_line unit name text words b = heading unit name text b ++ (codes "note: " ++ message_line words)

-- what the spans after the first one add: each is a duplicate's, or nothing is printed for them
abbrev pub reported_also : ColumnUnit → SpansKind → List ℕ → List ℕ → List Span → List ℕ
reported_also unit DuplicationError name text spans = flat_map (reported unit name text (codes "note: also here")) spans
reported_also unit Error name text spans = []

-- What is printed, in a text of this name, of an error or a warning with this message, these spans, and spans of this kind, with columns in
-- this unit.
abbrev pub rendered_in : ColumnUnit → List ℕ → List ℕ → List ℕ → List Span → SpansKind → List ℕ
rendered_in unit name text message [] kind = visible name ++ (codes ": " ++ message_line message)
rendered_in unit name text message (span ∷ spans) kind = reported unit name text message span ++ reported_also unit kind name text spans

-- the same with columns in characters
abbrev pub rendered : List ℕ → List ℕ → List ℕ → List Span → SpansKind → List ℕ
rendered = rendered_in Characters

-- What is printed of several, one after another; `Prints` says what each prints.
pub data RendersEach {A : Type 0} (Prints : A → List ℕ → Type 0) (spans : A → List Span) (kind : A → SpansKind) (name text : List ℕ)
    : List A → List ℕ → Type 0 where
  none : RendersEach Prints spans kind name text [] []
  more : {errors : List A} {error : A} {message out : List ℕ}
      → RendersEach Prints spans kind name text errors out → Prints error message
      → RendersEach Prints spans kind name text (errors ++ error ∷ []) (out ++ rendered name text message (spans error) (kind error))
