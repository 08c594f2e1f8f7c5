-- An error or a warning as a result of SARIF 2.1.0.
use Rattle.std.specs.Prelude.{ℕ, ◌/◌, ◌%◌, ◌==◌, Bool, true, ◌&&◌, ◌||◌, if◌then◌else◌, List, [], ◌∷◌, ◌++◌, codes, map, Option, Some, None}
use Rattle.std.specs.Char.{is_ascii_alphanumeric}
use Rattle.std.specs.Fmt.{digit_glyph}
use Rattle.std.specs.List.{flat_map}
use Rattle.std.specs.Option.{option_map_or}
use Rattle.cfgbase.specs.declared.span.Span.{Span}
use Rattle.cfglines.specs.Lines.{line_number, column}
use Rattle.serde_json.specs.Data.{Data, array, object, member, no_members, string}
use Rattle.serde_json.specs.View.{items_of}
use Rattle.serde_json.specs.Written.{compact_text}
use Rattle.cfgjson.specs.Objects.{ShownDiagnostic, count, is_boundary}

-- whether a byte of a path is in a URI as it is: letters, digits, and `-`, `.`, `/`, `_` and `~` are
abbrev pub is_kept : ℕ → Bool
is_kept byte = is_ascii_alphanumeric byte || (byte == 45 || byte == 46 || byte == 47 || byte == 95 || byte == 126)

-- a byte of a path in a URI: as it is, or `%` and two digits in base 16
unfoldable pub uri_byte : ℕ → List ℕ
uri_byte byte = if is_kept byte then byte ∷ [] else 37 ∷ digit_glyph true (byte / 16) ∷ digit_glyph true (byte % 16) ∷ []

-- the URI of a file of this name
abbrev pub uri_of : List ℕ → List ℕ
uri_of name = flat_map uri_byte name

-- the region between these lines and columns
unfoldable pub region : ℕ × ℕ → ℕ × ℕ → Data
region start end = object
    (member (codes "endColumn") (count end.1)
    (member (codes "endLine") (count end.0)
    (member (codes "startColumn") (count start.1)
    (member (codes "startLine") (count start.0) no_members))))

abbrev pub line_and_column : List ℕ → ℕ → ℕ × ℕ
line_and_column text b = (line_number text b, column text b)

-- the region of a span that starts and ends at character boundaries of the text; other spans have none
unfoldable pub region_of : List ℕ → Span → Option Data
region_of text span = if is_boundary text span.start && is_boundary text span.end
    then Some (region (line_and_column text span.start) (line_and_column text span.end))
    else None

-- the file with this URI, or a region of it
abbrev pub location : List ℕ → Option Data → Data
location uri within = object (member (codes "physicalLocation") (object
    (member (codes "artifactLocation") (object (member (codes "uri") (string uri) no_members))
    (option_map_or (λ region. member (codes "region") region no_members) within no_members))) no_members)

abbrev pub location_of : List ℕ → List ℕ → Span → Data
location_of uri text span = location uri (region_of text span)

-- the place of a result: that of its first span, or else the file as a whole
unfoldable pub main_location : List ℕ → List ℕ → List Span → Data
main_location uri text [] = location uri None
main_location uri text (span ∷ spans) = location_of uri text span

-- the places of its other spans
abbrev pub other_locations : List ℕ → List ℕ → List Span → List Data
other_locations uri text [] = []
other_locations uri text (span ∷ spans) = map (location_of uri text) spans

-- what a result says, with the note on it if there is one
abbrev pub result_text : ShownDiagnostic → List ℕ
result_text shown = shown.text ++ option_map_or (λ hint. codes ": " ++ hint) shown.hint []

abbrev pub message_of : List ℕ → Data
message_of text = object (member (codes "text") (string text) no_members)

-- an error or a warning about the text of a file of this name
unfoldable pub sarif_result : List ℕ → List ℕ → ShownDiagnostic → Data
sarif_result name text shown = object
    (member (codes "level") (string (if shown.is_error then codes "error" else codes "warning"))
    (member (codes "locations") (array (items_of (main_location (uri_of name) text shown.spans ∷ [])))
    (member (codes "message") (message_of (result_text shown))
    (member (codes "relatedLocations") (array (items_of (other_locations (uri_of name) text shown.spans)))
    (member (codes "ruleId") (string shown.kind) no_members)))))

-- the same on a line, after a comma and an LF
abbrev pub result_line : List ℕ → List ℕ → ShownDiagnostic → List ℕ
result_line name text shown = codes ",\n" ++ compact_text (sarif_result name text shown)

-- those of several
abbrev pub result_lines : List ℕ → List ℕ → List ShownDiagnostic → List ℕ
result_lines name text all = flat_map (result_line name text) all
