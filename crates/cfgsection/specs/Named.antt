-- The kind of Yacc that the section of a text names, or the errors that keep it from naming one.
use Rattle.std.specs.Prelude.{◌≡◌, ℕ, true, false, List, [], ◌∷◌, Option, Some, None, Result, Ok, Err}
use Rattle.cfgbase.specs.declared.span.Span.{Span}
use Rattle.cfgkinds.specs.declared.kind.YaccKind.{YaccKind}
use Rattle.cfgsection.specs.declared.section.header_fault.HeaderFault.{HeaderFault}
use Rattle.cfgsection.specs.declared.section.header_fault.HeaderFault.TheVariants as faults
use Rattle.cfgerrors.specs.HeaderErrors.{InvalidEntry, ShownError}
use Rattle.cfgkinds.specs.YaccKinds.{kind_of_value, kind_namespace}
use Rattle.cfgsection.specs.SectionGrammar.{Entry, Fault}
use Rattle.cfgsection.specs.SectionReads.{IsSection, section_answer, given, errors_view}
use Rattle.cfgkinds.specs.Values.{ShownHeaderValue}

-- a kind, or why none is named
abbrev pub Naming : Type 0
Naming = Result YaccKind (List (ShownError Span))

-- no kind is named, because of what is at these spans
abbrev pub unnamed : List Span → List (ShownError Span)
unnamed offsets = record { kind = InvalidEntry kind_namespace; locations = offsets } ∷ []

abbrev pub kind_or_offsets : Result YaccKind (List Span) → Naming
kind_or_offsets (Ok kind) = Ok kind
kind_or_offsets (Err offsets) = Err (unnamed offsets)

-- given the value for the key `yacckind`; without one, the error has the empty span at offset 0
abbrev pub kind_given : Option (ShownHeaderValue Span) → Naming
kind_given None = Err (unnamed (record { start = 0; end = 0 } ∷ []))
kind_given (Some given) = kind_or_offsets (kind_of_value given.value)

abbrev pub kind_in : Result (List Entry × List ℕ) (List (ShownError Span)) → Naming
kind_in (Err errors) = Err errors
kind_in (Ok (entries, rest)) = kind_given (given entries kind_namespace)

-- The text has a section that names this kind; if the section has errors, these keep it from naming one.
pub record Names (text : List ℕ) (naming : Naming) : Type 0 where
  pub entries : List Entry
  pub end : Result (List ℕ) Fault
  pub section : IsSection true text entries end
  pub naming_is : kind_in (section_answer entries end) ≡ naming

-- A text names one kind, or has one list of errors.
pub record HasOneNaming (text : List ℕ) : Type 0 where
  pub naming : Naming
  pub names : Names text naming
  pub only : (other : Naming) → Names text other → other ≡ naming

-- the text has no section, or one without errors that gives nothing for `yacckind`
pub record NamesNoKind (text : List ℕ) : Type 0 where
  pub entries : List Entry
  pub rest : List ℕ
  pub section : IsSection false text entries (Ok rest)
  pub whole : section_answer entries (Ok rest) ≡ Ok (entries, rest)
  pub none : given entries kind_namespace ≡ None

-- what a call that looks for the kind returns
abbrev pub IsNaming : Naming → Result YaccKind HeaderFault → Type 0
IsNaming naming (Ok kind) = naming ≡ Ok kind
IsNaming naming (Err (faults.Errors errors)) = naming ≡ Err (errors_view errors.items)
IsNaming naming (Err faults.OutOfMemory) = Unit {0}

-- The same if the text may name no kind; only then none is returned. Running out of memory says nothing.
abbrev pub IsKindIfNamed : List ℕ → Result (Option YaccKind) HeaderFault → Type 0
IsKindIfNamed text (Ok None) = NamesNoKind text
IsKindIfNamed text (Ok (Some kind)) = (NamesNoKind text → ⊥) × Names text (Ok kind)
IsKindIfNamed text (Err (faults.Errors errors)) = (NamesNoKind text → ⊥) × Names text (Err (errors_view errors.items))
IsKindIfNamed text (Err faults.OutOfMemory) = Unit {0}

-- a result of two parts, by the first one
abbrev pub first_part : {A B E : Type 0} → Result (A × B) E → Result A E
first_part (Ok (a, b)) = Ok a
first_part (Err error) = Err error
