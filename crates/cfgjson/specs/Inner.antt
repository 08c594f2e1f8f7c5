-- What the crate's private functions say about one another.
use Rattle.std.specs.Prelude.{ℕ, ◌++◌, if◌then◌else◌, Bool, List, [], ◌∷◌, codes, map, Option}
use Rattle.std.specs.Option.{option_map_or}
use Rattle.cfgbase.specs.declared.span.Span.{Span}
use Rattle.serde_json.specs.Data.{Data, Members, array, member, no_members, object, put, string}
use Rattle.serde_json.specs.View.{items_of}
use Rattle.cfgjson.specs.Annotations.{escaped, escaped_in_property, place_properties, property_text}
use Rattle.cfgjson.specs.Objects.{ShownDiagnostic, count, place_of, position_of, text_at}
use Rattle.cfgjson.specs.Sarif.{main_location, message_of, other_locations, result_text, uri_of}

-- the word for how severe it is
abbrev pub severity : Bool → List ℕ
severity is_error = if is_error then codes "error" else codes "warning"

-- how an annotation begins, up to the name of the file
abbrev pub opening : Bool → List ℕ
opening is_error = if is_error then codes "::error file=" else codes "::warning file="

-- its properties, after the name of the first
abbrev pub rest_of_properties : List ℕ → List ℕ → ShownDiagnostic → List ℕ
rest_of_properties name text shown = property_text name ++ (place_properties text shown.spans
    ++ (codes ",title=" ++ property_text shown.kind))

-- what is written for a character of a property, or else of a message
abbrev pub escaped_for : Bool → ℕ → List ℕ
escaped_for in_property = if in_property then escaped_in_property else escaped

-- members with the line and the column of a byte, by these names
abbrev pub put_position : List ℕ → List ℕ → Data × Data → Members → Members
put_position line_name column_name position members = put column_name position.1 (put line_name position.0 members)

-- members with where a span starts and ends
abbrev pub put_place : List ℕ → Span → Members → Members
put_place text span members =
    put (codes "end") (count span.end) (put (codes "start") (count span.start)
    (put_position (codes "end_line") (codes "end_column") (position_of text span.end)
    (put_position (codes "line") (codes "column") (position_of text span.start) members)))

-- members with a note, if there is one, and with symbols, if there are any
abbrev pub put_hint : Option (List ℕ) → Members → Members
put_hint hint members = option_map_or (λ words. put (codes "hint") (string words) members) hint members

abbrev pub put_symbols : Bool → List (List ℕ) → Members → Members
put_symbols has_symbols symbols members =
    if has_symbols then put (codes "symbols") (array (items_of (map string symbols))) members else members

-- members with those of an error or a warning
abbrev pub put_diagnostic : List ℕ → List ℕ → ShownDiagnostic → Members → Members
put_diagnostic name text shown members =
    put_symbols shown.has_symbols (map (text_at text) shown.spans) (put_hint shown.hint
    (put (codes "places") (array (items_of (map (place_of text) shown.spans)))
    (put (codes "text") (string shown.text) (put (codes "kind") (string shown.kind)
    (put (codes "severity") (string (severity shown.is_error)) (put (codes "file") (string name) members))))))

-- members with the lines and the columns of a region
abbrev pub put_ends : ℕ × ℕ → ℕ × ℕ → Members → Members
put_ends start end members =
    put (codes "endColumn") (count end.1) (put (codes "endLine") (count end.0)
    (put (codes "startColumn") (count start.1) (put (codes "startLine") (count start.0) members)))

-- members with a file, and with a region if there is one
abbrev pub put_file : List ℕ → Members → Members
put_file uri members = put (codes "artifactLocation") (object (member (codes "uri") (string uri) no_members)) members

abbrev pub put_region : Option Data → Members → Members
put_region region members = option_map_or (λ region. put (codes "region") region members) region members

-- members with the place of a result, and those of its other spans
abbrev pub put_locations : List ℕ → List ℕ → List Span → Members → Members
put_locations uri text spans members =
    put (codes "relatedLocations") (array (items_of (other_locations uri text spans)))
    (put (codes "locations") (array (items_of (main_location uri text spans ∷ []))) members)

-- members with those of a result
abbrev pub put_result : List ℕ → List ℕ → ShownDiagnostic → Members → Members
put_result name text shown members =
    put_locations (uri_of name) text shown.spans (put (codes "message") (message_of (result_text shown))
    (put (codes "ruleId") (string shown.kind) (put (codes "level") (string (severity shown.is_error)) members)))
