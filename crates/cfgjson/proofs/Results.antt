-- A result has no floats.
use Rattle.std.proofs.Common.{◌≡◌, ℕ, ◌&&◌, Bool, true, false, if◌then◌else◌, List, [], ◌∷◌, map, refl, Some, None}
use Rattle.cfgbase.specs.declared.span.Span.{Span}
use Rattle.serde_json.specs.View.{items_of}
use Rattle.serde_json.specs.Written.{has_float, items_have_float}
use Rattle.cfgjson.specs.Objects.{ShownDiagnostic, is_boundary}
use Rattle.cfgjson.specs.Sarif.{line_and_column, location, location_of, main_location, other_locations, region, region_of, sarif_result, uri_of}

region_whole : (start end : ℕ × ℕ) → has_float (region start end) ≡ false
unfolding region
region_whole start end = refl

location_whole : (uri text : List ℕ) (span : Span) → has_float (location_of uri text span) ≡ false
unfolding region_of
location_whole uri text span = go (is_boundary text span.start && is_boundary text span.end)
  where
    go : (at : Bool) → has_float (location uri (if at then Some (region (line_and_column text span.start) (line_and_column text span.end)) else None)) ≡ false
    go true = rw (region_whole (line_and_column text span.start) (line_and_column text span.end)) refl
    go false = refl

locations_whole : (uri text : List ℕ) (spans : List Span) → items_have_float (items_of (map (location_of uri text) spans)) ≡ false
locations_whole uri text [] = refl
locations_whole uri text (span ∷ spans) = rw (location_whole uri text span, locations_whole uri text spans) refl

main_whole : (uri text : List ℕ) (spans : List Span) → has_float (main_location uri text spans) ≡ false
unfolding main_location
main_whole uri text [] = refl
main_whole uri text (span ∷ spans) = location_whole uri text span

others_whole : (uri text : List ℕ) (spans : List Span) → items_have_float (items_of (other_locations uri text spans)) ≡ false
others_whole uri text [] = refl
others_whole uri text (span ∷ spans) = locations_whole uri text spans

pub result_whole : (name text : List ℕ) (shown : ShownDiagnostic) → has_float (sarif_result name text shown) ≡ false
unfolding sarif_result
result_whole name text shown = rw (main_whole (uri_of name) text shown.spans, others_whole (uri_of name) text shown.spans) refl
