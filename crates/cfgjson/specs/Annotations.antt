-- An error or a warning as an annotation of GitHub: a workflow command, on a line.
use Rattle.std.specs.Prelude.{◌≡◌, ℕ, Bool, ◌==◌, if◌then◌else◌, List, [], ◌∷◌, ◌++◌, codes, Contains, Option, Some, None}
use Rattle.std.specs.Char.{encode_utf8}
use Rattle.std.specs.Fmt.{decimal}
use Rattle.std.specs.List.{flat_map}
use Rattle.std.specs.Str.{chars}
use Rattle.cfgbase.specs.declared.span.Span.{Span}
use Rattle.cfglines.specs.Lines.{line_number, column}
use Rattle.cfgjson.specs.Objects.{ShownDiagnostic, is_boundary}

-- a character of a message
unfoldable pub escaped : ℕ → List ℕ
escaped c =
    if c == 37 then codes "%25"
    else if c == 13 then codes "%0D"
    else if c == 10 then codes "%0A"
    else encode_utf8 c

-- a character of a property
unfoldable pub escaped_in_property : ℕ → List ℕ
escaped_in_property c =
    if c == 58 then codes "%3A"
    else if c == 44 then codes "%2C"
    else escaped c

abbrev pub message_text : List ℕ → List ℕ
message_text text = flat_map escaped (chars text)

abbrev pub property_text : List ℕ → List ℕ
property_text text = flat_map escaped_in_property (chars text)

-- these properties, with the line and the column of b, from 1; nothing if b is no character boundary of the text
abbrev pub position_properties : List ℕ → List ℕ → List ℕ → ℕ → List ℕ
position_properties line_property column_property text b = if is_boundary text b
    then line_property ++ (decimal (line_number text b) ++ (column_property ++ decimal (column text b)))
    else []

-- where the first of these spans starts and ends
abbrev pub place_properties : List ℕ → List Span → List ℕ
place_properties text [] = []
place_properties text (span ∷ spans) = position_properties (codes ",line=") (codes ",col=") text span.start
    ++ position_properties (codes ",endLine=") (codes ",endColumn=") text span.end

-- the note at the end of a message, if there is one
abbrev pub note_text : Option (List ℕ) → List ℕ
note_text None = []
note_text (Some hint) = codes ": " ++ message_text hint

-- the word of a workflow command
abbrev pub command : Bool → List ℕ
command is_error = if is_error then codes "error" else codes "warning"

-- the properties of an error or a warning about the text of a file of this name, with the word of its kind as the title
abbrev pub properties : List ℕ → List ℕ → ShownDiagnostic → List ℕ
properties name text shown = codes "file=" ++ (property_text name ++ (place_properties text shown.spans
    ++ (codes ",title=" ++ property_text shown.kind)))

-- an error or a warning about the text of a file of this name
unfoldable pub annotation : List ℕ → List ℕ → ShownDiagnostic → List ℕ
annotation name text shown = codes "::" ++ (command shown.is_error ++ (codes " " ++ (properties name text shown
    ++ (codes "::" ++ (message_text shown.text ++ (note_text shown.hint ++ codes "\n"))))))

-- those of several, one a line
abbrev pub annotations : List ℕ → List ℕ → List ShownDiagnostic → List ℕ
annotations name text all = flat_map (annotation name text) all

-- it ends in an LF, and has no other
pub record IsLine (text : List ℕ) : Type 0 where
  pub line : List ℕ
  pub is : text ≡ line ++ codes "\n"
  pub one : Contains line 10 → ⊥
