-- A refused section, and a text that names no kind, have at least one error.
use Rattle.std.proofs.Common.{◌≡◌, ℕ, ◌<◌, Bool, List, [], ◌∷◌, length, length-append, arith, Option, Some, None, Result, Ok, Err, Bor, Vec, Global, String, refl, sym, subst}
use Rattle.std.specs.Prelude.{IfErr}
use Rattle.std.proofs.lemmas.List.{length-map}
use Rattle.cfgbase.specs.declared.span.Span.{Span}
use Rattle.constructs.specs.Construct.{computes}
use Rattle.constructs.proofs.Agree.{agree}
use Rattle.cfgerrors.specs.HeaderErrors.{ShownError, error_view}
use Rattle.cfgerrors.specs.declared.header.HeaderError.{HeaderError}
use Rattle.cfgkinds.specs.declared.kind.YaccKind.{YaccKind}
use Rattle.cfgkinds.specs.declared.value.Value.{Value}
use Rattle.cfgkinds.specs.YaccKinds.{kind_of_value, kind_namespace}
use Rattle.cfgkinds.specs.Values.{ShownHeaderValue}
use Rattle.cfgsection.specs.declared.section.entry.Entry.{Entry as CodeEntry}
use Rattle.cfgsection.specs.declared.section.header_fault.HeaderFault.{HeaderFault}
use Rattle.cfgsection.specs.declared.section.header_fault.HeaderFault.TheVariants as faults
use Rattle.cfgsection.specs.SectionGrammar.{Entry, Fault, entry, section}
use Rattle.cfgsection.specs.SectionErrors.{duplicate_errors, section_errors}
use Rattle.cfgsection.specs.SectionReads.{ReturnsEntry, IsEntryAnswer, IsSectionRead, end_of, errors_view, section_of, section_answer, unless_errors, given}
use Rattle.cfgsection.specs.Named.{Naming, kind_or_offsets, kind_given, kind_in, Names}
use Rattle.cfgsection.specs.SectionRefusal.{ListsErrors}

abbrev pub HasErrors : {A E : Type 0} → Result A (List E) → Type 0
HasErrors (Ok a) = Unit {0}
HasErrors (Err errors) = 0 < length errors

answer_errors : (errors : List (ShownError Span)) (entries : List Entry) (end : Result (List ℕ) Fault) → ((fault : Fault) → end ≡ Err fault → 0 < length errors)
    → HasErrors (unless_errors errors entries end)
answer_errors errors entries (Err fault) some = some fault refl
answer_errors [] entries (Ok rest) some = tt
answer_errors (error ∷ errors) entries (Ok rest) some = omega arith

section_errors_some : (entries : List Entry) (fault : Fault) → 0 < length (section_errors {A = List ℕ} entries (Err fault))
section_errors_some entries fault = omega (arith, length-append (duplicate_errors entries) (fault ∷ []))

section_lists : (entries : List Entry) (end : Result (List ℕ) Fault) → HasErrors (section_answer entries end)
section_lists entries end =
    answer_errors (section_errors entries end) entries end (λ fault e. subst (λ end. 0 < length (section_errors entries end)) (sym e) (section_errors_some entries fault))

kind_errors : (kind : Result YaccKind (List Span)) → HasErrors (kind_or_offsets kind)
kind_errors (Ok kind) = tt
kind_errors (Err offsets) = omega arith

given_errors : (value : Option (ShownHeaderValue Span)) → HasErrors (kind_given value)
given_errors None = omega arith
given_errors (Some value) = kind_errors (kind_of_value value.value)

naming_errors : (section : Result (List Entry × List ℕ) (List (ShownError Span))) → HasErrors section → HasErrors (kind_in section)
naming_errors (Err errors) h = h
naming_errors (Ok (entries, rest)) h = given_errors (given entries kind_namespace)

pub errors_there : (text : List ℕ) (naming : Naming) → Names text naming → HasErrors naming
errors_there text naming names = subst HasErrors names.naming_is (naming_errors (section_answer names.entries names.end) (section_lists names.entries names.end))

-- what is shown of a list of errors
listed : (errors : List (HeaderError Span)) → 0 < length (errors_view errors) → 0 < length errors
listed errors some = subst (λ n. 0 < n) (length-map errors error_view) some

pub read_lists : (required : Bool) (text : List ℕ) (result : Result (Vec CodeEntry Global × Bor (List ℕ)) HeaderFault) → IsSectionRead (section_of required text) result
    → IfErr result ListsErrors
unfolding section_of
read_lists required text (Ok read) is = tt
read_lists required text (Err faults.OutOfMemory) is = tt
read_lists required text (Err (faults.Errors errors)) is =
    let read = computes (section (length text) required) text in
    listed errors.items (subst HasErrors is (section_lists read.items (end_of read.outcome)))

entry_listed : (len : ℕ) (result : Result (String Global × Span × Value Span × ℕ) HeaderFault) (expected : Result (Entry × List ℕ) Fault) → IsEntryAnswer len result expected
    → IfErr result ListsErrors
entry_listed len (Ok answered) expected is = tt
entry_listed len (Err faults.OutOfMemory) expected is = tt
entry_listed len (Err (faults.Errors errors)) (Ok expected) is = absurd is
entry_listed len (Err (faults.Errors errors)) (Err fault) is = listed errors.items (subst (λ xs. 0 < length xs) (sym is) (omega arith))

pub entry_lists : (len : ℕ) (text : List ℕ) (result : Result (String Global × Span × Value Span × ℕ) HeaderFault) → ReturnsEntry len text result → IfErr result ListsErrors
entry_lists len text result results = entry_listed len result _ (results _ ((agree (entry len)).sound text))
