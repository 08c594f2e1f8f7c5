-- An error or a warning as a JSON object, with the places of its spans in the text; and lines of such objects.
use Rattle.std.specs.Prelude.{◌≡◌, ℕ, Bool, true, false, ◌&&◌, nat_le, if◌then◌else◌, List, [], ◌∷◌, ◌++◌, codes, length, map, slice_index, slice_range, Contains, Option, Some, None}
use Rattle.cfgbase.specs.declared.span.Span.{Span}
use Rattle.cfglines.specs.Characters.{begins_character}
use Rattle.cfglines.specs.Lines.{line_number, column}
use Rattle.serde_json.specs.Data.{Data, Members, null, number, unsigned, string, array, object, member, no_members}
use Rattle.serde_json.specs.Read.{read}
use Rattle.serde_json.specs.View.{items_of}
use Rattle.serde_json.specs.Written.{compact_text}

-- whether b is a character boundary of the text: a character begins there, or the text ends
abbrev pub is_boundary : List ℕ → ℕ → Bool
is_boundary text b = nat_le b (length text) && begins_character (slice_index text b)

abbrev pub count : ℕ → Data
count n = number (unsigned n)

-- the line and the column of b, from 1; null if b is no character boundary of the text
unfoldable pub position_of : List ℕ → ℕ → Data × Data
position_of text b = if is_boundary text b then (count (line_number text b), count (column text b)) else (null, null)

-- where a span starts and ends: lines, columns, and offsets in bytes
unfoldable pub place_of : List ℕ → Span → Data
place_of text span = object
    (member (codes "column") (position_of text span.start).1
    (member (codes "end") (count span.end)
    (member (codes "end_column") (position_of text span.end).1
    (member (codes "end_line") (position_of text span.end).0
    (member (codes "line") (position_of text span.start).0
    (member (codes "start") (count span.start) no_members))))))

-- the text at a span: empty if the span doesn't start and end at character boundaries of the text
unfoldable pub text_at : List ℕ → Span → List ℕ
text_at text span = if is_boundary text span.start && (is_boundary text span.end && nat_le span.start span.end)
    then slice_range text span.start span.end
    else []

-- what is shown of an error or a warning: the word of its kind, what it says, a note on it, its spans, and whether these are names of symbols
pub record ShownDiagnostic : Type 0 where
  pub is_error : Bool
  pub kind : List ℕ
  pub text : List ℕ
  pub hint : Option (List ℕ)
  pub spans : List Span
  pub has_symbols : Bool

-- these members, and before them the note if there is one
abbrev pub with_hint : Option (List ℕ) → Members → Members
with_hint None members = members
with_hint (Some hint) members = member (codes "hint") (string hint) members

-- these members, and before them the symbols if there are any
abbrev pub with_symbols : Bool → List (List ℕ) → Members → Members
with_symbols false symbols members = members
with_symbols true symbols members = member (codes "symbols") (array (items_of (map string symbols))) members

-- an error or a warning about the text of a file of this name
unfoldable pub diagnostic_object : List ℕ → List ℕ → ShownDiagnostic → Data
diagnostic_object name text shown = object
    (member (codes "file") (string name)
    (with_hint shown.hint
    (member (codes "kind") (string shown.kind)
    (member (codes "places") (array (items_of (map (place_of text) shown.spans)))
    (member (codes "severity") (string (if shown.is_error then codes "error" else codes "warning"))
    (with_symbols shown.has_symbols (map (text_at text) shown.spans)
    (member (codes "text") (string shown.text) no_members)))))))

-- the object's text without spaces, which reads back as the object, and is one line
pub record IsJsonLine (shown : Data) (line : List ℕ) : Type 0 where
  pub text : line ≡ compact_text shown
  pub reads_back : read line ≡ Some shown
  pub one_line : Contains line 10 → ⊥

-- the line of an error or a warning about the text of a file of this name
abbrev pub json_line : List ℕ → List ℕ → ShownDiagnostic → List ℕ
json_line name text shown = compact_text (diagnostic_object name text shown) ++ codes "\n"

-- a text with one more line, of this object
abbrev pub AddsJsonLine : Data → List ℕ → List ℕ → Type 0
AddsJsonLine shown old new = (line : List ℕ) × IsJsonLine shown line × (new ≡ old ++ (line ++ codes "\n"))

-- these objects, one a line
pub data AreJsonLines : List Data → List ℕ → Type 0 where
  none : AreJsonLines [] []
  more : {objects : List Data} {shown : Data} {lines line : List ℕ}
      → AreJsonLines objects lines → IsJsonLine shown line → AreJsonLines (objects ++ shown ∷ []) (lines ++ (line ++ codes "\n"))
