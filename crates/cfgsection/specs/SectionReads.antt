-- A reading of a text's section: the entries that count as read, and the rest of the text after the section, or what stopped the reading.
use Rattle.std.specs.Prelude.{◌≡◌, ℕ, Bool, false, List, [], ◌∷◌, length, Option, Some, None, Result, Ok, Err, fold, map, String, string_bytes, Vec, if◌then◌else◌}
use Rattle.std.specs.Str.{bytes_eq}
use Rattle.std.specs.declared.alloc.Global.{Global}
use denote.Ref.{Bor}
use Rattle.cfgbase.specs.declared.span.Span.{Span}
use Rattle.constructs.specs.Construct.{Says, computes}
use Rattle.constructs.specs.Read.{Read}
use Rattle.cfgwords.specs.Text.{offset_of}
use Rattle.cfgerrors.specs.declared.header.HeaderError.{HeaderError}
use Rattle.cfgsection.specs.declared.section.entry.Entry.{Entry as CodeEntry}
use Rattle.cfgsection.specs.declared.section.header_fault.HeaderFault.{HeaderFault}
use Rattle.cfgsection.specs.declared.section.header_fault.HeaderFault.TheVariants as faults
use Rattle.cfgkinds.specs.declared.value.Value.{Value}
use Rattle.cfgerrors.specs.HeaderErrors.{ShownError, error_view}
use Rattle.cfgkinds.specs.Values.{ShownHeaderValue, value_view}
use Rattle.cfgsection.specs.SectionGrammar.{Entry, Fault, entry, section}
use Rattle.cfgsection.specs.SectionErrors.{section_errors}

-- the rest after the section, if its reading was not stopped; the whole text if there is no section
abbrev pub end_of : Result (List ℕ × List ℕ) Fault → Result (List ℕ) Fault
end_of (Ok (rest, left)) = Ok rest
end_of (Err fault) = Err fault

-- The text's section has these entries, up to end. It may be missing unless it is required.
pub record IsSection (required : Bool) (text : List ℕ) (entries : List Entry) (end : Result (List ℕ) Fault) : Type 0 where
  pub read : Read Entry Fault (List ℕ)
  pub says : Says (section (length text) required) text read
  pub entries_are : read.items ≡ entries
  pub end_is : end_of read.outcome ≡ end

-- Exactly one pair of entries and end is a reading of the text's section.
pub record HasOneSection (required : Bool) (text : List ℕ) : Type 0 where
  pub entries : List Entry
  pub end : Result (List ℕ) Fault
  pub is : IsSection required text entries end
  pub only : (xs : List Entry) (e : Result (List ℕ) Fault) → IsSection required text xs e → (xs ≡ entries) × (e ≡ end)

-- what is returned of a section without errors, or else its errors
abbrev pub unless_errors : List (ShownError Span) → List Entry → Result (List ℕ) Fault → Result (List Entry × List ℕ) (List (ShownError Span))
unless_errors errors entries (Err fault) = Err errors
unless_errors (error ∷ errors) entries (Ok rest) = Err (error ∷ errors)
unless_errors [] entries (Ok rest) = Ok (entries, rest)

abbrev pub section_answer : List Entry → Result (List ℕ) Fault → Result (List Entry × List ℕ) (List (ShownError Span))
section_answer entries end = unless_errors (section_errors entries end) entries end

-- The same by the plain program: the entries of the text's section and the rest after it, or the section's errors.
unfoldable pub section_of : Bool → List ℕ → Result (List Entry × List ℕ) (List (ShownError Span))
section_of required text =
    section_answer (computes (section (length text) required) text).items (end_of (computes (section (length text) required) text).outcome)

-- this is the rest of the text after its section, which may be missing and has no errors
abbrev pub IsAfterSection : List ℕ → List ℕ → Type 0
IsAfterSection text rest = (entries : List Entry) × (section_of false text ≡ Ok (entries, rest))

-- what an entry gives for its key
abbrev pub given_by : Entry → ShownHeaderValue Span
given_by entry = record { location = entry.key_span; value = entry.value }

-- what the entries give for a key: at most one entry has it, if no key is given twice
unfoldable pub given : List Entry → List ℕ → Option (ShownHeaderValue Span)
given entries key = fold (λ found entry. if bytes_eq entry.key key then Some (given_by entry) else found) None entries

-- an entry of the code, as plain data
abbrev pub entry_view : CodeEntry → Entry
entry_view entry = record { key = string_bytes entry.key; key_span = entry.key_span; value = value_view entry.value }

abbrev pub errors_view : List (HeaderError Span) → List (ShownError Span)
errors_view errors = map error_view errors

-- What is returned of a section: its entries and the rest of the text after it, or its errors. Running out of memory says nothing.
abbrev pub IsSectionRead : Result (List Entry × List ℕ) (List (ShownError Span)) → Result (Vec CodeEntry Global × Bor (List ℕ)) HeaderFault → Type 0
IsSectionRead shown (Ok (entries, rest)) = shown ≡ Ok (map entry_view entries.items, rest.now)
IsSectionRead shown (Err (faults.Errors errors)) = shown ≡ Err (errors_view errors.items)
IsSectionRead shown (Err faults.OutOfMemory) = Unit {0}

-- What is returned of one entry: its key, the key's span, its value, and the offset after it and the white space that follows.
abbrev pub IsEntryAnswer : ℕ → Result (String Global × Span × Value Span × ℕ) HeaderFault → Result (Entry × List ℕ) Fault → Type 0
IsEntryAnswer len (Ok (key, key_span, value, offset)) (Ok (entry, rest)) =
    (entry ≡ record { key = string_bytes key; key_span = key_span; value = value_view value }) × (offset ≡ offset_of len rest)
IsEntryAnswer len (Ok answer) (Err fault) = ⊥
IsEntryAnswer len (Err faults.OutOfMemory) expected = Unit {0}
IsEntryAnswer len (Err (faults.Errors errors)) (Ok expected) = ⊥
IsEntryAnswer len (Err (faults.Errors errors)) (Err fault) = errors_view errors.items ≡ fault ∷ []

-- What is returned of the entry at the start of the rest of a text of len bytes is what its reading gives, of which there is exactly one.
abbrev pub ReturnsEntry : ℕ → List ℕ → Result (String Global × Span × Value Span × ℕ) HeaderFault → Type 0
ReturnsEntry len text result = (read : Read Entry Fault Entry) → Says (entry len) text read → IsEntryAnswer len result read.outcome
