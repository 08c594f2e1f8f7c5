-- Each error of a text's section has at least one span, and each of its spans is a piece of the text. So are the spans of its values, and
-- the text may be cut where the section ends.
use Rattle.std.proofs.Common.{◌≡◌, ℕ, ◌<◌, Bool, List, [], ◌∷◌, ◌++◌, get_or, length, Result, Ok, Err, ap, subst, length-append, arith, All}
use Rattle.std.specs.Str.{IsUtf8, bytes_eq}
use Rattle.std.proofs.lemmas.Cmp.{nat_list_eq_equiv}
use Rattle.std.proofs.lemmas.List.Elements.{All-nil, All-cons, All-head, All-tail, All-append, All-map, All-filter, All-weaker}
use Rattle.lemmas.proofs.Repeats.{count-map, repeated-some}
use Rattle.constructs.specs.Construct.{computes}
use Rattle.constructs.proofs.Agree.{agree}
use Rattle.constructs.proofs.Keeps.{keeps}
use Rattle.constructs.proofs.Yields.{EndsIn}
use Rattle.cfgwords.specs.TextSpans.{IsPiece}
use Rattle.cfgbase.specs.declared.span.Span.{Span}
use Rattle.cfgwords.proofs.Cuts.{IsCut, cut_here}
use Rattle.cfgwords.proofs.WordOffsets.{ComesAfter, is_here, moves_on}
use Rattle.cfgerrors.specs.HeaderErrors.{ShownError}
use Rattle.cfgsection.specs.SectionErrors.{spans_of, keys_of, duplicate_error, duplicate_errors, section_errors, stopped_by}
use Rattle.cfgsection.specs.SectionGrammar.{Entry, Fault, section}
use Rattle.cfgsection.specs.SectionOffsets.{IsErrorAt}
use Rattle.cfgsection.specs.SectionReads.{end_of, unless_errors, section_of}
use Rattle.cfgsection.proofs.SectionKept.{IsEntryAt, section_kept}
use Rattle.cfgsection.proofs.SectionRepeats.{repeats}
use Rattle.cfgkinds.proofs.ValueOffsets.{EachKindOffset}

module _ (whole : List ℕ) where
  offsets_at : (entries : List Entry) (key : List ℕ) → All (IsEntryAt whole) entries → All (IsPiece whole) (spans_of entries key)
  offsets_at entries key all =
      All-map (IsPiece whole) (λ (e : Entry). e.key_span) _ (All-weaker (IsEntryAt whole) (λ entry. IsPiece whole entry.key_span) (λ entry at. at.0) _ (All-filter _ (IsEntryAt whole) entries all))

  module _ (entries : List Entry) (all : All (IsEntryAt whole) entries) where
    duplicates_at : All (IsErrorAt whole) (duplicate_errors entries)
    unfolding duplicate_errors
    duplicates_at = All-map (IsErrorAt whole) (duplicate_error entries) (repeats entries) (λ k d within.
        let key = get_or (repeats entries) k d in
        record {
          some = subst (λ n. 0 < n) (count-map bytes_eq (λ (e : Entry). e.key) (λ (e : Entry). e.key_span) key entries)
              (repeated-some bytes_eq nat_list_eq_equiv (keys_of entries) k d within);
          each = offsets_at entries key all;
        })

    errors_at : (end : Result (List ℕ × List ℕ) Fault) → EndsIn (ComesAfter whole whole) (IsErrorAt whole) (IsCut whole) end → All (IsErrorAt whole) (section_errors entries (end_of end))
    errors_at (Ok (rest, left)) t = All-append (IsErrorAt whole) (duplicate_errors entries) [] duplicates_at (All-nil (IsErrorAt whole))
    errors_at (Err fault) at = All-append (IsErrorAt whole) (duplicate_errors entries) (fault ∷ []) duplicates_at (All-cons (IsErrorAt whole) fault [] at (All-nil (IsErrorAt whole)))

-- a refused section has at least one error
some_errors : (repeats : List Fault) (entries : List Entry) (end : Result (List ℕ) Fault) (shown : List Fault) → unless_errors (repeats ++ stopped_by end) entries end ≡ Err shown
    → 0 < length shown
some_errors repeats entries (Err fault) shown e = let same : repeats ++ fault ∷ [] ≡ shown = cc in omega (arith, ap length same, length-append repeats (fault ∷ []))
some_errors [] entries (Ok rest) shown e = cc
some_errors (error ∷ repeats) entries (Ok rest) shown e = let same : error ∷ (repeats ++ []) ≡ shown = cc in omega (arith, ap length same)

pub errors_are_some : (required : Bool) (text : List ℕ) (errors : List Fault) → section_of required text ≡ Err errors → 0 < length errors
unfolding section_of
errors_are_some required text errors e = some_errors _ _ (end_of (computes (section (length text) required) text).outcome) errors e

abbrev pub IsSectionAt : List ℕ → Result (List Entry × List ℕ) (List (ShownError Span)) → Type 0
IsSectionAt text (Ok (entries, rest)) = IsCut text rest × All (λ entry. EachKindOffset (IsPiece text) entry.value) entries
IsSectionAt text (Err errors) = All (IsErrorAt text) errors

answer_at : (text : List ℕ) (errors : List Fault) (entries : List Entry) (end : Result (List ℕ × List ℕ) Fault) → All (IsErrorAt text) errors → All (IsEntryAt text) entries
    → EndsIn (ComesAfter text text) (IsErrorAt text) (IsCut text) end → IsSectionAt text (unless_errors errors entries (end_of end))
answer_at text errors entries (Err fault) located kept cut = located
answer_at text (error ∷ errors) entries (Ok (rest, left)) located kept cut = located
answer_at text [] entries (Ok (rest, left)) located kept cut = (cut.1, All-weaker (IsEntryAt text) (λ entry. EachKindOffset (IsPiece text) entry.value) (λ entry at. at.1) entries kept)

pub section_at : (required : Bool) (text : List ℕ) → IsUtf8 text → IsSectionAt text (section_of required text)
unfolding section_of
section_at required text utf8 =
    let start : ComesAfter text text text = record { origin = cut_here text; further = cut_here text } in
    let read = computes (section (length text) required) text in
    let kept = (keeps (ComesAfter text) (IsEntryAt text) (IsErrorAt text) (is_here text utf8) (moves_on text utf8) (section (length text) required) text (IsCut text)
    (section_kept text utf8 required text (IsCut text) (λ rest cut. cut))).passes text read start ((agree (section (length text) required)).sound text) in
    answer_at text (section_errors read.items (end_of read.outcome)) read.items read.outcome (errors_at text read.items kept.items read.outcome kept.outcome) kept.items kept.outcome

pub errors_at_offsets : (required : Bool) (text : List ℕ) (errors : List Fault) → IsUtf8 text → section_of required text ≡ Err errors → All (IsErrorAt text) errors
errors_at_offsets required text errors utf8 e = subst (IsSectionAt text) e (section_at required text utf8)
