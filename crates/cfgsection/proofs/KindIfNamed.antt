-- Whether a text names a kind, given what is read of its section.
use Rattle.std.proofs.Common.{◌≡◌, ℕ, inl, inr, Bool, true, false, not, List, [], ◌∷◌, map, Option, Some, None, Result, Ok, Err, Bor, Vec, Global, option_map, refl, sym, subst, ap, ap₂, ◌∙◌}
use Rattle.std.proofs.lemmas.Bool.{false≢true}
use Rattle.std.specs.Prelude.{is_some}
use Rattle.std.specs.Result.{result_map_both}
use Rattle.cfgbase.specs.declared.span.Span.{Span}
use Rattle.cfgerrors.specs.HeaderErrors.{ShownError}
use Rattle.cfgkinds.specs.Values.{ShownHeaderValue}
use Rattle.cfgkinds.specs.declared.kind.YaccKind.{YaccKind}
use Rattle.cfgsection.specs.SectionErrors.{section_errors}
use Rattle.cfgsection.specs.SectionGrammar.{Entry, Fault}
use Rattle.cfgsection.specs.SectionReads.{IsSection, IsSectionRead, entry_view, errors_view, given, given_by, section_answer, section_of, unless_errors}
use Rattle.cfgsection.specs.declared.section.entry.Entry.{Entry as CodeEntry}
use Rattle.cfgsection.specs.declared.section.header_fault.HeaderFault.{HeaderFault}
use Rattle.cfgsection.specs.declared.section.header_fault.HeaderFault.TheVariants as faults
use Rattle.cfgsection.specs.Named.{IsKindIfNamed, IsNaming, Names, NamesNoKind, Naming, kind_given, kind_in}
use Rattle.cfgsection.proofs.NamedLemmas.{naming_is, naming_of}
use Rattle.cfgsection.proofs.SectionOne.{one_section, section_answered}
use Rattle.cfgsection.proofs.SectionThere.{same_or_missing}
use Rattle.cfgkinds.specs.YaccKinds.{kind_namespace}

-- a section: without errors, its entries and the rest after it; else its errors
abbrev Section : Type 0
Section = Result (List Entry × List ℕ) (List (ShownError Span))

abbrev entries_in : Section → List Entry
entries_in (Ok section) = section.0
entries_in (Err errors) = []

abbrev rest_in : Section → List ℕ
rest_in (Ok section) = section.1
rest_in (Err errors) = []

unlike : (errors : List (ShownError Span)) (section : List Entry × List ℕ) → ◌≡◌ {A = Section} (Err errors) (Ok section) → ⊥
unlike errors section is = cc

-- a section with this result has these entries and this end
answered : (errors : List (ShownError Span)) (xs : List Entry) (end : Result (List ℕ) Fault) (entries : List Entry) (rest : List ℕ)
    → unless_errors errors xs end ≡ Ok (entries, rest) → (xs ≡ entries) × (end ≡ Ok rest)
answered errors xs (Err fault) entries rest is = absurd (unlike errors (entries, rest) is)
answered (error ∷ errors) xs (Ok left) entries rest is = absurd (unlike (error ∷ errors) (entries, rest) is)
answered [] xs (Ok left) entries rest is = (ap entries_in is, ap Ok (ap rest_in is))

module _ (text : List ℕ) where
  names_none : (entries : List Entry) (rest : List ℕ) → section_of false text ≡ Ok (entries, rest) → given entries kind_namespace ≡ None → NamesNoKind text
  names_none entries rest is none =
      let one = one_section false text in
      let answer = sym (section_answered false text one.entries one.end one.is) ∙ is in
      let same = answered (section_errors one.entries one.end) one.entries one.end entries rest answer in
      record {
        entries = entries;
        rest = rest;
        section = subst (λ end. IsSection false text entries end) same.1 (subst (λ xs. IsSection false text xs one.end) same.0 one.is);
        whole = sym (ap₂ section_answer same.0 same.1) ∙ answer;
        none = none;
      }

  section_is : (it : NamesNoKind text) → section_of false text ≡ Ok (it.entries, it.rest)
  section_is it = section_answered false text it.entries (Ok it.rest) it.section ∙ it.whole

  -- if no kind is named, the entries give none
  only_none : (entries : List Entry) (rest : List ℕ) → section_of false text ≡ Ok (entries, rest) → NamesNoKind text → given entries kind_namespace ≡ None
  only_none entries rest is it = subst (λ xs. given xs kind_namespace ≡ None) (ap entries_in (sym (section_is it) ∙ is)) it.none

  -- the rest after a required section is also the rest after an optional one
  pub after_section : (entries : List Entry) (rest : List ℕ) → section_of true text ≡ Ok (entries, rest) → section_of false text ≡ Ok (entries, rest)
  after_section entries rest is = elim (same_or_missing text) [ inl same ↦ sym same ∙ is | inr gone ↦ absurd (gone.1 (entries, rest) is) ]

  module _ (named : NamesNoKind text → ⊥) where
    required : section_of true text ≡ section_of false text
    unfolding given
    required = elim (same_or_missing text) [ inl same ↦ same | inr gone ↦ absurd (named (names_none [] text gone.0 refl)) ]

    names_this : (naming : Naming) → kind_in (section_of false text) ≡ naming → Names text naming
    names_this naming is = subst (Names text) (ap kind_in required ∙ is) (naming_of text)

  -- of a section with errors
  pub by_errors : (fault : HeaderFault) → IsSectionRead (section_of false text) (Err fault) → IsKindIfNamed text (Err fault)
  by_errors (faults.Errors errors) read =
      let named : NamesNoKind text → ⊥ = λ it. unlike (errors_view errors.items) (it.entries, it.rest) (sym read ∙ section_is it) in
      (named, names_this named _ (ap kind_in read))
  by_errors faults.OutOfMemory read = tt

  -- of one without errors, with the entry that gives a value for the key of the kind
  module _ (entries : Vec CodeEntry Global) (rest : Bor (List ℕ)) (read : IsSectionRead (section_of false text) (Ok (entries, rest))) where
    abbrev value_of : Option (Bor CodeEntry) → Option (ShownHeaderValue Span)
    value_of found = option_map (λ (e : Bor CodeEntry). given_by (entry_view e.now)) found

    abbrev IsFound : Option (Bor CodeEntry) → Type 0
    IsFound found = value_of found ≡ given (map entry_view entries.items) kind_namespace

    pub by_none : (found : Option (Bor CodeEntry)) (none : Bool) → IsFound found → is_some found ≡ not none → none ≡ true → IsKindIfNamed text (Ok None)
    by_none None none is test e = names_none (map entry_view entries.items) rest.now read (sym is)
    by_none (Some entry) none is test e = absurd (false≢true (sym (test ∙ ap not e)))

    pub by_some : (found : Option (Bor CodeEntry)) (none : Bool) → IsFound found → is_some found ≡ not none → none ≡ false
        → (result : Result YaccKind HeaderFault) → IsNaming (kind_given (value_of found)) result → IsKindIfNamed text (result_map_both Some (λ fault. fault) result)
    by_some None none is test e result naming = absurd (false≢true (test ∙ ap not e))
    by_some (Some entry) none is test e result naming = go result naming
      where
        named : NamesNoKind text → ⊥
        named it = let no : Some (given_by (entry_view entry.now)) ≡ None = is ∙ only_none (map entry_view entries.items) rest.now read it in absurd (cc)

        names : (naming : Naming) → kind_given (value_of (Some entry)) ≡ naming → Names text naming
        names naming same = names_this named naming (ap kind_in read ∙ sym (ap kind_given is) ∙ same)

        go : (result : Result YaccKind HeaderFault) → IsNaming (kind_given (value_of (Some entry))) result → IsKindIfNamed text (result_map_both Some (λ fault. fault) result)
        go (Ok kind) naming = (named, names (Ok kind) naming)
        go (Err (faults.Errors errors)) naming = (named, names (Err (errors_view errors.items)) naming)
        go (Err faults.OutOfMemory) naming = tt

  -- a text with these errors has no others
  pub naming_if : (fault : HeaderFault) → IsKindIfNamed text (Err fault) → (naming : Naming) → Names text naming → IsNaming naming (Err fault)
  naming_if (faults.Errors errors) is naming names = sym (naming_is text naming names) ∙ naming_is text (Err (errors_view errors.items)) is.1
  naming_if faults.OutOfMemory is naming names = tt
