-- The header of a section: what its entries give for their keys, as a map of marks.
use Rattle.std.specs.Prelude.{◌≡◌, ℕ, Bool, List, Some, Result, Ok, Err, length, option_map, String, string_bytes}
use Rattle.std.specs.String.{string_cmp}
use Rattle.std.specs.declared.alloc.Global.{Global}
use Rattle.cfgbase.specs.declared.span.Span.{Span}
use Rattle.cfgmarks.specs.declared.markmap.behavior.MergeBehavior.TheVariants.{MutuallyExclusive}
use Rattle.cfgmarks.specs.declared.markmap.marked.Marked.{Marked}
use Rattle.cfgmarks.specs.declared.markmap.MarkMap.{MarkMap}
use Rattle.cfgmarks.specs.Marks.{marks, unmarked, entry_at}
use Rattle.cfgwords.specs.Text.{offset_of}
use Rattle.cfgerrors.specs.HeaderErrors.{ShownError}
use Rattle.cfgkinds.specs.declared.value.HeaderValue.{HeaderValue}
use Rattle.cfgkinds.specs.Values.{ShownHeaderValue, header_value_view}
use Rattle.cfgsection.specs.declared.section.header_fault.HeaderFault.{HeaderFault}
use Rattle.cfgsection.specs.declared.section.header_fault.HeaderFault.TheVariants as faults
use Rattle.cfgsection.specs.SectionGrammar.{Entry, Fault}
use Rattle.cfgsection.specs.SectionReads.{IsSection, section_answer, given, errors_view}

-- a key's marks and value, as plain data
abbrev pub marked_view : Marked (HeaderValue Span) → Marked (ShownHeaderValue Span)
marked_view m = record { used = m.used; required = m.required; behavior = m.behavior; value = option_map header_value_view m.value }

-- a value at a key that has no mark
abbrev pub bare_value : ShownHeaderValue Span → Marked (ShownHeaderValue Span)
bare_value value = record unmarked { value = Some value }

-- The header has exactly the entries' keys and values, no key has a mark, and the default behaviour is the usual one.
pub record IsHeaderOf (entries : List Entry) (header : MarkMap (String Global) (HeaderValue Span)) : Type 0 where
  pub holds : (key : String Global) → option_map marked_view (entry_at string_cmp (marks header) key) ≡ option_map bare_value (given entries (string_bytes key))
  pub behavior : (marks header).behavior ≡ MutuallyExclusive

-- What is returned for a section in a text of len bytes: a header and the offset after the section, or errors. Running out of memory says
-- nothing.
abbrev pub IsSectionAnswer : ℕ → Result (MarkMap (String Global) (HeaderValue Span) × ℕ) HeaderFault → Result (List Entry × List ℕ) (List (ShownError Span)) → Type 0
IsSectionAnswer len (Ok (header, offset)) (Ok (entries, rest)) = IsHeaderOf entries header × (offset ≡ offset_of len rest)
IsSectionAnswer len (Ok answer) (Err errors) = ⊥
IsSectionAnswer len (Err faults.OutOfMemory) expected = Unit {0}
IsSectionAnswer len (Err (faults.Errors errors)) (Ok expected) = ⊥
IsSectionAnswer len (Err (faults.Errors errors)) (Err expected) = errors_view errors.items ≡ expected

-- What is returned for the section of a text is what its reading gives, of which there is exactly one.
abbrev pub ReturnsSection : Bool → List ℕ → Result (MarkMap (String Global) (HeaderValue Span) × ℕ) HeaderFault → Type 0
ReturnsSection required text result = (entries : List Entry) (end : Result (List ℕ) Fault) → IsSection required text entries end
    → IsSectionAnswer (length text) result (section_answer entries end)
