-- What a step of the section's reader does, given what reading gives from there.
use Rattle.std.specs.Prelude.{ℕ, List, [], ◌∷◌, ◌++◌, map, Option, Some, None, Result, Ok, Err, Vec}
use Rattle.std.specs.BTreeMap.{BTreeMap, get_by}
use Rattle.std.specs.Cmp.Lexicographic.{slice_cmp}
use Rattle.std.specs.Option.{option_map_or}
use Rattle.std.specs.Ordering.{nat_cmp}
use Rattle.std.specs.declared.alloc.Global.{Global}
use denote.Ref.{Bor}
use Rattle.cfgbase.specs.declared.span.Span.{Span}
use Rattle.constructs.specs.Leaves.{Gives, ValueOf, Leaves}
use Rattle.constructs.specs.Construct.{Construct}
use Rattle.constructs.specs.Steps as steps
use Rattle.constructs.specs.Steps.{ReaderKind}
use Rattle.cfgsection.specs.declared.section.reader.Reader.{Reader}
use Rattle.cfgsection.specs.declared.section.fault.Fault.{Fault as CodeFault}
use Rattle.cfgsection.specs.declared.section.fault.ReadFault.{ReadFault}
use Rattle.cfgsection.specs.declared.section.fault.ReadFault.TheVariants as faults
use Rattle.cfgerrors.specs.HeaderErrors.{DuplicateEntry, error_kind_view}
use Rattle.cfgkinds.specs.Values.{ShownSetting, setting_view}
use Rattle.cfgkinds.specs.declared.value.Setting.{Setting}
use Rattle.cfgsection.specs.SectionGrammar.{Entry, Fault}
use Rattle.cfgsection.specs.SectionReads.{entry_view}

abbrev pub fault_view : CodeFault → Fault
fault_view fault = record { kind = error_kind_view fault.kind; locations = fault.span ∷ [] }

abbrev pub settings_list : List (Setting Span) → List (ShownSetting Span)
settings_list settings = map setting_view settings

abbrev pub entries_of : Reader → List Entry
entries_of reader = map entry_view reader.entries.items

abbrev pub fault_of : ReadFault → Option Fault
fault_of faults.OutOfMemory = None
fault_of (faults.Fault fault) = Some (fault_view fault)

-- a reader of sections: it notes entries
abbrev pub section_reader : ReaderKind Reader ℕ ReadFault (List Entry) Entry Fault
section_reader = record {
  fixed = λ reader. reader.len;
  rest = λ reader. reader.rest.now;
  made = entries_of;
  add = λ entries entry. entries ++ entry ∷ [];
  fault = fault_of;
}

-- the reader has noted these entries
abbrev pub Grows : Reader → Reader → List Entry → Type 0
Grows = steps.Grows section_reader

-- What a step returned, converted by view, is what reading the construct gives, and the reader has noted the entries that were read, unless
-- memory ran out.
abbrev pub Builds : {l : Leaves} {G : Gives} {X : Type 0} → (X → ValueOf G) → Reader → Reader → Result X ReadFault → Construct Entry Fault l G → Type 0
Builds = steps.Builds section_reader

-- the spans that are noted for a key
abbrev pub spans_at : BTreeMap (Bor (List ℕ)) (Vec Span Global) → List ℕ → List Span
spans_at offsets key = option_map_or (λ spans. spans.items) (get_by (λ k. slice_cmp nat_cmp key k.now) offsets) []

-- the error for a key that is given more than once, at the spans that are noted for it
abbrev pub duplicate_at : BTreeMap (Bor (List ℕ)) (Vec Span Global) → List ℕ → Fault
duplicate_at offsets key = record { kind = DuplicateEntry; locations = spans_at offsets key }

-- the fault that ended a reading, if one did, or the rest
abbrev pub end_view : Result (Bor (List ℕ)) CodeFault → Result (List ℕ) Fault
end_view (Ok rest) = Ok rest.now
end_view (Err fault) = Err (fault_view fault)
