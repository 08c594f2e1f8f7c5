-- The errors of a section: one for each key that is given more than once, and then what stopped its reading.
use Rattle.std.specs.Prelude.{ℕ, List, [], ◌∷◌, ◌++◌, map, Result, Ok, Err}
use Rattle.std.specs.List.{filter}
use Rattle.std.specs.Str.{bytes_eq}
use Rattle.lemmas.specs.Lists.{repeated}
use Rattle.cfgbase.specs.declared.span.Span.{Span}
use Rattle.cfgerrors.specs.HeaderErrors.{DuplicateEntry, ShownError}
use Rattle.cfgsection.specs.SectionGrammar.{Entry}

-- the spans of a key, in order
abbrev pub spans_of : List Entry → List ℕ → List Span
spans_of entries key = map (λ e. e.key_span) (filter (λ e. bytes_eq e.key key) entries)

abbrev pub keys_of : List Entry → List (List ℕ)
keys_of entries = map (λ e. e.key) entries

-- the error for a key that is given more than once, at all its spans
abbrev pub duplicate_error : List Entry → List ℕ → ShownError Span
duplicate_error entries key = record { kind = DuplicateEntry; locations = spans_of entries key }

unfoldable pub duplicate_errors : List Entry → List (ShownError Span)
duplicate_errors entries = map (duplicate_error entries) (repeated bytes_eq (keys_of entries))

-- what stopped a reading, if anything did
abbrev pub stopped_by : {A : Type 0} → Result A (ShownError Span) → List (ShownError Span)
stopped_by (Ok rest) = []
stopped_by (Err fault) = fault ∷ []

-- the errors of a section that reads as these entries, up to its end or what stopped the reading
abbrev pub section_errors : {A : Type 0} → List Entry → Result A (ShownError Span) → List (ShownError Span)
section_errors entries end = duplicate_errors entries ++ stopped_by end
