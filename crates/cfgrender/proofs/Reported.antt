-- What is printed at an offset that is a character boundary, and at one that isn't.
use Rattle.std.proofs.Common.{◌≡◌, ℕ, true, false, List, [], ◌++◌, codes, length, slice_index, ⊎_elim, refl, arith}
use Rattle.std.proofs.lemmas.Bool.{and_from, and_parts, cases_Bool, cases_lt, le-leb, leb-true, lt-ltb, ltb-true, or_left, or_right, or_cases}
use Rattle.std.proofs.lemmas.List.{get_or_past}
use Rattle.std.specs.Fmt.{decimal}
use Rattle.std.specs.Str.{IsCharBoundary}
use Rattle.cfgbase.specs.declared.span.Span.{Span}
use Rattle.cfglines.specs.Lines.{line_number}
use Rattle.cfgrender.specs.declared.column_unit.ColumnUnit.{ColumnUnit}
use Rattle.cfgrender.specs.Render.{column_in, excerpt, heading, is_offset, message_line, reported}
use Rattle.cfgrender.specs.Visible.{visible}

pub is_offset_true : (text : List ℕ) (b : ℕ) → IsCharBoundary text b → is_offset text b ≡ true
is_offset_true text b boundary = and_from _ _ (le-leb _ _ boundary.0) (⊎_elim
    (λ low. or_left _ _ (lt-ltb _ _ low))
    (λ high. ⊎_elim
    (λ inside. or_right _ _ (le-leb _ _ (boundary.1 inside high)))
    (λ end. let past = get_or_past text b 0 end in absurd (omega arith))
    (cases_lt b (length text)))
    (cases_lt (slice_index text b) 128))

is_offset_only : (text : List ℕ) (b : ℕ) → is_offset text b ≡ true → IsCharBoundary text b
is_offset_only text b h =
    let (within, begins) = and_parts _ _ h in (
      leb-true _ _ within,
      λ _ high. ⊎_elim
          (λ low. let below = ltb-true (slice_index text b) 128 low in absurd (omega arith))
          (λ lead. leb-true _ _ lead)
          (or_cases _ _ begins),
    )

pub is_offset_false : (text : List ℕ) (b : ℕ) → (IsCharBoundary text b → ⊥) → is_offset text b ≡ false
is_offset_false text b none =
    ⊎_elim (λ h. absurd (none (is_offset_only text b h))) (λ h. h) (cases_Bool (is_offset text b))

pub heading_of_offset : (unit : ColumnUnit) (name text : List ℕ) (b : ℕ) → IsCharBoundary text b → heading unit name text b
    ≡ visible name ++ (codes ":" ++ (decimal (line_number text b) ++ (codes ":" ++ (decimal (column_in unit text b) ++ codes ": "))))
unfolding heading
heading_of_offset unit name text b boundary = rw (is_offset_true text b boundary) refl

pub heading_of_none : (unit : ColumnUnit) (name text : List ℕ) (b : ℕ) → (IsCharBoundary text b → ⊥) → heading unit name text b ≡ visible name ++ codes ": "
unfolding heading
heading_of_none unit name text b none = rw (is_offset_false text b none) refl

pub reported_of_offset : (unit : ColumnUnit) (name text words : List ℕ) (span : Span) → IsCharBoundary text span.start
    → reported unit name text words span ≡ heading unit name text span.start ++ (message_line words ++ excerpt text span)
unfolding reported
reported_of_offset unit name text words span boundary = rw (is_offset_true text span.start boundary) refl

pub reported_of_none : (unit : ColumnUnit) (name text words : List ℕ) (span : Span) → (IsCharBoundary text span.start → ⊥)
    → reported unit name text words span ≡ heading unit name text span.start ++ (message_line words ++ [])
unfolding reported
reported_of_none unit name text words span none = rw (is_offset_false text span.start none) refl
