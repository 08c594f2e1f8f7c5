-- A text's section has exactly one reading: the one that the functions on lists compute.
use Rattle.std.proofs.Common.{◌≡◌, ℕ, Bool, List, [], ◌∷◌, ◌++◌, length, map, Result, Ok, Err, Bor, Vec, Global, refl, sym, ◌∙◌, ap, ap₂}
use Rattle.cfgbase.specs.declared.span.Span.{Span}
use Rattle.constructs.specs.Construct.{computes}
use Rattle.constructs.specs.Read.{Read}
use Rattle.constructs.proofs.Agree.{agree}
use Rattle.constructs.proofs.Steps.{noted_after}
use Rattle.cfgsection.specs.SectionGrammar.{Entry, Fault, section}
use Rattle.cfgsection.specs.SectionReads.{IsSection, HasOneSection, end_of, entry_view, unless_errors, section_answer, section_of, errors_view}
use Rattle.cfgsection.specs.SectionErrors.{section_errors}
use Rattle.cfgerrors.specs.declared.header.HeaderError.{HeaderError}
use Rattle.cfgsection.specs.declared.section.fault.Fault.{Fault as CodeFault}
use Rattle.cfgsection.specs.declared.section.entry.Entry.{Entry as CodeEntry}
use Rattle.cfgsection.specs.declared.section.reader.Reader.{Reader}
use Rattle.cfgsection.specs.Inner.Steps.{Grows, entries_of, end_view}

pub section_is : (required : Bool) (text : List ℕ) (entries : List Entry) (end : Result (List ℕ) Fault) → IsSection required text entries end
    → ((computes (section (length text) required) text).items ≡ entries) × (end_of (computes (section (length text) required) text).outcome ≡ end)
section_is required text entries end is =
    let same = (agree (section (length text) required)).only text is.read is.says in (
      ap (λ (r : Read Entry Fault (List ℕ)). r.items) same ∙ is.entries_are,
      ap (λ (r : Read Entry Fault (List ℕ)). end_of r.outcome) same ∙ is.end_is,
    )

pub one_section : (required : Bool) (text : List ℕ) → HasOneSection required text
one_section required text = record {
  entries = (computes (section (length text) required) text).items;
  end = end_of (computes (section (length text) required) text).outcome;
  is = record {
    read = computes (section (length text) required) text;
    says = (agree (section (length text) required)).sound text;
    entries_are = refl;
    end_is = refl;
  };
  only = λ xs e is. let same = section_is required text xs e is in (sym same.0, sym same.1);
}

pub section_answered : (required : Bool) (text : List ℕ) (entries : List Entry) (end : Result (List ℕ) Fault) → IsSection required text entries end
    → section_of required text ≡ section_answer entries end
unfolding section_of
section_answered required text entries end is = let same = section_is required text entries end is in ap₂ section_answer same.0 same.1

-- what a reader of the whole text has noted
pub entries_read : (required : Bool) (text : List ℕ) (old new : Reader) (entries : List CodeEntry) → old.rest.now ≡ text → old.len ≡ length text → entries_of old ≡ []
    → Grows old new (computes (section old.len required) old.rest.now).items → entries ≡ new.entries.items
    → map entry_view entries ≡ (computes (section (length text) required) text).items
entries_read required text old new entries whole len none grown e =
    let items = (computes (section old.len required) old.rest.now).items in
    ap (map entry_view) e ∙ grown ∙ noted_after (entries_of old) items ∙ ap (λ entries. entries ++ items) none ∙ (λ i. (computes (section (len i) required) (whole i)).items)

-- What is returned, given what was read and the errors that were found.
module _ (required : Bool) (text : List ℕ) (entries : List CodeEntry) (end : Result (Bor (List ℕ)) CodeFault) (errors : Vec (HeaderError Span) Global)
    (items_are : map entry_view entries ≡ (computes (section (length text) required) text).items)
    (end_is : end_view end ≡ end_of (computes (section (length text) required) text).outcome)
    (errors_are : errors_view errors.items ≡ section_errors (map entry_view entries) (end_view end)) where
  answered : section_of required text ≡ unless_errors (errors_view errors.items) (map entry_view entries) (end_view end)
  unfolding section_of
  answered = (λ i. section_answer (sym items_are i) (sym end_is i)) ∙ ap (λ es. unless_errors es (map entry_view entries) (end_view end)) (sym errors_are)

  pub read_whole : (rest : Bor (List ℕ)) → end ≡ Ok rest → errors.items ≡ [] → section_of required text ≡ Ok (map entry_view entries, rest.now)
  read_whole rest whole none = answered ∙ (λ i. unless_errors (errors_view (none i)) (map entry_view entries) (end_view (whole i)))

  pub read_stopped : (fault : CodeFault) → end ≡ Err fault → section_of required text ≡ Err (errors_view errors.items)
  read_stopped fault stopped = answered ∙ ap (λ e. unless_errors (errors_view errors.items) (map entry_view entries) (end_view e)) stopped

  pub read_repeated : (rest : Bor (List ℕ)) → end ≡ Ok rest → (errors.items ≡ [] → ⊥) → section_of required text ≡ Err (errors_view errors.items)
  read_repeated rest whole some = answered ∙ ap (λ e. unless_errors (errors_view errors.items) (map entry_view entries) (end_view e)) whole ∙ go errors.items some
    where
      go : (es : List (HeaderError Span)) → (es ≡ [] → ⊥) → unless_errors (errors_view es) (map entry_view entries) (Ok rest.now) ≡ Err (errors_view es)
      go [] some = absurd (some refl)
      go (e ∷ es) some = refl
