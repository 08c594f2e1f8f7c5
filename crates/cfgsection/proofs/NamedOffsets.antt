-- The errors of a text that names no kind have their spans in the text.
use Rattle.std.proofs.Common.{ℕ, ◌<◌, Bool, true, false, List, [], ◌∷◌, fold, length, All, Option, Some, None, Result, Ok, Err, subst, arith, if◌then◌else◌}
use Rattle.std.specs.Prelude.{IfSome, IfErr}
use Rattle.std.specs.Str.{IsUtf8, IsCharBoundary, bytes_eq}
use Rattle.std.proofs.lemmas.Str.{IsCharBoundary-start}
use Rattle.std.proofs.lemmas.List.Elements.{All-nil, All-cons, All-head, All-tail}
use Rattle.cfgbase.specs.declared.span.Span.{Span}
use Rattle.cfgwords.specs.TextSpans.{IsPiece}
use Rattle.cfgkinds.specs.declared.kind.YaccKind.{YaccKind}
use Rattle.cfgerrors.specs.HeaderErrors.{ShownError}
use Rattle.cfgkinds.specs.Values.{ShownHeaderValue, ShownValue}
use Rattle.cfgkinds.specs.YaccKinds.{kind_of_value, kind_namespace}
use Rattle.cfgsection.specs.SectionGrammar.{Entry}
use Rattle.cfgsection.specs.SectionReads.{given, section_answer}
use Rattle.cfgsection.specs.declared.section.header_fault.HeaderFault.{HeaderFault}
use Rattle.cfgsection.specs.declared.section.header_fault.HeaderFault.TheVariants as faults
use Rattle.cfgsection.proofs.NamedLemmas.{one_naming}
use Rattle.cfgsection.specs.Named.{IsNaming, Naming, unnamed, kind_or_offsets, kind_given, kind_in, Names}
use Rattle.cfgsection.specs.SectionOffsets.{IsErrorAt, IsFaultAt}
use Rattle.cfgkinds.proofs.ValueOffsets.{EachKindOffset}
use Rattle.cfgsection.proofs.SectionOne.{section_answered}
use Rattle.cfgsection.proofs.SectionOffsets.{IsSectionAt, section_at}
use Rattle.cfgkinds.proofs.KindOffsets.{kind_offsets}

-- what the entries give for a key
given_from : (P : ShownValue Span → Type 0) (key : List ℕ) (entries : List Entry) (found : Option (ShownHeaderValue Span)) → IfSome found (λ v. P v.value)
    → All (λ entry. P entry.value) entries
    → IfSome (fold (λ found entry. if bytes_eq entry.key key then Some (record { location = entry.key_span; value = entry.value }) else found) found entries) (λ v. P v.value)
given_from P key [] found h all = h
given_from P key (entry ∷ entries) found h all =
    given_from P key entries _ (go (bytes_eq entry.key key)) (All-tail (λ entry. P entry.value) entry entries all)
  where
    go : (same : Bool) → IfSome (if same then Some (record { location = entry.key_span; value = entry.value }) else found) (λ v. P v.value)
    go true = All-head (λ entry. P entry.value) entry entries all
    go false = h

given_located : (P : ShownValue Span → Type 0) (entries : List Entry) (key : List ℕ) → All (λ entry. P entry.value) entries → IfSome (given entries key) (λ v. P v.value)
unfolding given
given_located P entries key all = given_from P key entries None tt all

module _ (text : List ℕ) where
  -- the errors of a text that names no kind
  abbrev pub IsNamingAt : Naming → Type 0
  IsNamingAt (Ok kind) = Unit {0}
  IsNamingAt (Err errors) = All (IsErrorAt text) errors

  unnamed_at : (offsets : List Span) → 0 < length offsets → All (IsPiece text) offsets → All (IsErrorAt text) (unnamed offsets)
  unnamed_at offsets some each = All-cons (IsErrorAt text) _ [] (record { some = some; each = each }) (All-nil (IsErrorAt text))

  kind_at : (kind : Result YaccKind (List Span)) → IfErr kind (λ offsets. (0 < length offsets) × All (IsPiece text) offsets) → IsNamingAt (kind_or_offsets kind)
  kind_at (Ok kind) h = tt
  kind_at (Err offsets) h = unnamed_at offsets h.0 h.1

  given_at : IsUtf8 text → (value : Option (ShownHeaderValue Span)) → IfSome value (λ v. EachKindOffset (IsPiece text) v.value) → IsNamingAt (kind_given value)
  given_at utf8 None h =
      let first : IsCharBoundary text 0 = IsCharBoundary-start text utf8 in
      unnamed_at (record { start = 0; end = 0 } ∷ []) (omega arith) (All-cons (IsPiece text) _ [] (record { ordered = omega arith; begins_at = first; ends_at = first }) (All-nil (IsPiece text)))
  given_at utf8 (Some value) h = kind_at (kind_of_value value.value) (kind_offsets (IsPiece text) value.value h)

  section_named_at : IsUtf8 text → (section : Result (List Entry × List ℕ) (List (ShownError Span))) → IsSectionAt text section → IsNamingAt (kind_in section)
  section_named_at utf8 (Err errors) h = h
  section_named_at utf8 (Ok (entries, rest)) h =
      given_at utf8 (given entries kind_namespace) (given_located (EachKindOffset (IsPiece text)) entries kind_namespace h.1)

  pub naming_at : IsUtf8 text → (naming : Naming) → Names text naming → IsNamingAt naming
  naming_at utf8 naming names =
      let at = subst (IsSectionAt text) (section_answered true text names.entries names.end names.section) (section_at true text utf8) in
      subst IsNamingAt names.naming_is (section_named_at utf8 (section_answer names.entries names.end) at)

  pub fault_at : IsUtf8 text → (result : Result YaccKind HeaderFault) → ((naming : Naming) → Names text naming → IsNaming naming result)
      → IfErr result (IsFaultAt text)
  fault_at utf8 (Ok kind) is = tt
  fault_at utf8 (Err (faults.Errors errors)) is =
      let one = one_naming text in
      subst IsNamingAt (is one.naming one.names) (naming_at utf8 one.naming one.names)
  fault_at utf8 (Err faults.OutOfMemory) is = tt
