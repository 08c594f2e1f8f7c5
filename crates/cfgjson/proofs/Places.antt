-- Where a span is, and how deep its object nests.
use Rattle.std.proofs.Common.{◌≡◌, ◌≤◌, ℕ, Bool, true, false, if◌then◌else◌, List, [], ◌∷◌, ◌+◌, codes, map, refl, arith, Option, Some, None}
use Rattle.std.proofs.lemmas.Bool.Decides.{nat_tests}
use Rattle.std.proofs.lemmas.List.{get_or_past}
use Rattle.std.specs.Str.{IsCharBoundary}
use Rattle.cfgbase.specs.declared.span.Span.{Span}
use Rattle.cfglines.specs.Lines.{line_number, column}
use Rattle.serde_json.specs.Data.{Data, null, depth, items_depth, member, Members, members_depth, no_members, string}
use Rattle.serde_json.specs.View.{items_of}
use Rattle.serde_json.specs.Written.{has_float, items_have_float, members_have_float}
use Rattle.cfgjson.specs.Objects.{ShownDiagnostic, count, is_boundary, position_of, place_of, diagnostic_object, text_at, with_hint, with_symbols}

pub position-boundary : (text : List ℕ) (b : ℕ) → IsCharBoundary text b → position_of text b ≡ (count (line_number text b), count (column text b))
unfolding position_of
position-boundary text b at =
    let is : is_boundary text b ≡ true = grind (arith, nat_tests, get_or_past text b 0) in rw is refl

pub position-none : (text : List ℕ) (b : ℕ) → (IsCharBoundary text b → ⊥) → position_of text b ≡ (null, null)
unfolding position_of
position-none text b none =
    let is : is_boundary text b ≡ false = grind (arith, nat_tests, get_or_past text b 0) in rw is refl

-- a number or null
record IsFlat (value : Data) : Type 0 where
  pub flat : depth value ≡ 0
  pub whole : has_float value ≡ false

position_flat : (text : List ℕ) (b : ℕ) → IsFlat (position_of text b).0 × IsFlat (position_of text b).1
unfolding position_of
position_flat text b = go (is_boundary text b)
  where
    go : (at : Bool) → let position : Data × Data = if at then (count (line_number text b), count (column text b)) else (null, null) in IsFlat position.0 × IsFlat position.1
    go true = (record { flat = refl; whole = refl }, record { flat = refl; whole = refl })
    go false = (record { flat = refl; whole = refl }, record { flat = refl; whole = refl })

place_flat : (text : List ℕ) (span : Span) → (depth (place_of text span) ≡ 1) × (has_float (place_of text span) ≡ false)
unfolding place_of
place_flat text span =
    let start = position_flat text span.start in
    let end = position_flat text span.end in
    (rw (start.0.flat, start.1.flat, end.0.flat, end.1.flat) refl, rw (start.0.whole, start.1.whole, end.0.whole, end.1.whole) refl)

places_flat : (text : List ℕ) (spans : List Span)
    → (items_depth (items_of (map (place_of text) spans)) ≤ 1) × (items_have_float (items_of (map (place_of text) spans)) ≡ false)
places_flat text [] = (omega arith, refl)
places_flat text (span ∷ spans) =
    let one = place_flat text span in
    let others = places_flat text spans in
    (omega (arith, one.0, others.0), rw (one.1, others.1) refl)

hint_flat : (hint : Option (List ℕ)) (rest : Members)
    → (members_depth (with_hint hint rest) ≡ members_depth rest) × (members_have_float (with_hint hint rest) ≡ members_have_float rest)
hint_flat None rest = (refl, refl)
hint_flat (Some hint) rest = (omega arith, refl)

names_flat : (symbols : List (List ℕ))
    → (items_depth (items_of (map string symbols)) ≡ 0) × (items_have_float (items_of (map string symbols)) ≡ false)
names_flat [] = (refl, refl)
names_flat (symbol ∷ symbols) =
    let others = names_flat symbols in (rw (others.0) refl, rw (others.1) refl)

symbols_flat : (has : Bool) (symbols : List (List ℕ)) (rest : Members)
    → (members_depth (with_symbols has symbols rest) ≤ 1 + members_depth rest) × (members_have_float (with_symbols has symbols rest) ≡ members_have_float rest)
symbols_flat false symbols rest = (omega arith, refl)
symbols_flat true symbols rest =
    let names = names_flat symbols in (rw (names.0) (omega arith), rw (names.1) refl)

pub object_shallow : (name text : List ℕ) (shown : ShownDiagnostic) → depth (diagnostic_object name text shown) ≤ 127
unfolding diagnostic_object
object_shallow name text shown =
    let symbols = symbols_flat shown.has_symbols (map (text_at text) shown.spans) (member (codes "text") (string shown.text) no_members) in
    rw ((hint_flat shown.hint _).0) (omega (arith, (places_flat text shown.spans).0, symbols.0))

pub object_whole : (name text : List ℕ) (shown : ShownDiagnostic) → has_float (diagnostic_object name text shown) ≡ false
unfolding diagnostic_object
object_whole name text shown =
    rw ((hint_flat shown.hint _).1, (places_flat text shown.spans).1, (symbols_flat shown.has_symbols (map (text_at text) shown.spans) _).1) refl
