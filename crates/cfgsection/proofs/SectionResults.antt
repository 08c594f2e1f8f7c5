-- The spans in what is returned of a section, and of one entry, lie in the text.
use Rattle.std.proofs.Common.{ℕ, Bool, List, [], All, length, take, drop, take-append-drop, Result, Ok, Err, Bor, Vec, Global, String, sym, subst}
use Rattle.std.specs.Prelude.{IfOk, IfErr}
use Rattle.std.specs.Str.{IsUtf8, IsCharBoundary}
use Rattle.std.proofs.lemmas.Str.{IsUtf8-drop}
use Rattle.std.proofs.lemmas.List.Elements.{All-nil, All-cons}
use Rattle.cfgbase.specs.declared.span.Span.{Span}
use Rattle.constructs.specs.Construct.{computes}
use Rattle.constructs.specs.Read.{Read}
use Rattle.constructs.proofs.Agree.{agree}
use Rattle.constructs.proofs.Keeps.{keeps}
use Rattle.constructs.proofs.Yields.{EndsIn}
use Rattle.cfgwords.specs.TextSpans.{IsPiece}
use Rattle.cfgwords.proofs.Cuts.{IsCut, cut_here, boundary_cut}
use Rattle.cfgwords.proofs.WordOffsets.{ComesAfter, whole_cut, is_here, moves_on}
use Rattle.cfgsection.specs.declared.section.entry.Entry.{Entry as CodeEntry}
use Rattle.cfgsection.specs.declared.section.header_fault.HeaderFault.{HeaderFault}
use Rattle.cfgsection.specs.declared.section.header_fault.HeaderFault.TheVariants as faults
use Rattle.cfgkinds.specs.declared.value.Value.{Value}
use Rattle.cfgsection.specs.SectionGrammar.{Entry, Fault, entry}
use Rattle.cfgsection.specs.SectionOffsets.{IsErrorAt, IsFaultAt}
use Rattle.cfgsection.specs.SectionReads.{ReturnsEntry, IsEntryAnswer, IsSectionRead, section_of}
use Rattle.cfgsection.proofs.SectionKept.{IsEntryAt, entry_kept}
use Rattle.cfgsection.proofs.SectionOffsets.{IsSectionAt, section_at}

-- what the plain program returns is what each reading gives
pub by_entry_readings : (len : ℕ) (text : List ℕ) (result : Result (String Global × Span × Value Span × ℕ) HeaderFault)
    → IsEntryAnswer len result (computes (entry len) text).outcome → ReturnsEntry len text result
by_entry_readings len text result answer read says =
    subst (λ (r : Read Entry Fault Entry). IsEntryAnswer len result r.outcome) ((agree (entry len)).only text read says) answer

module _ (text : List ℕ) (utf8 : IsUtf8 text) where
  pub read_fault : (required : Bool) (result : Result (Vec CodeEntry Global × Bor (List ℕ)) HeaderFault) → IsSectionRead (section_of required text) result
      → IfErr result (IsFaultAt text)
  read_fault required (Ok read) is = tt
  read_fault required (Err (faults.Errors errors)) is = subst (IsSectionAt text) is (section_at required text utf8)
  read_fault required (Err faults.OutOfMemory) is = tt

  module _ (i : ℕ) (at : IsCharBoundary text i) where
    abbrev IsEntryEnd : Result (Entry × List ℕ) Fault → Type 0
    IsEntryEnd = EndsIn (ComesAfter text (drop i text)) (IsErrorAt text) (IsEntryAt text)

    entry_read : IsEntryEnd (computes (entry (length text)) (drop i text)).outcome
    entry_read =
        let rest : List ℕ = drop i text in
        let cut : IsCut text rest = record { piece = take i text; whole = sym (take-append-drop i text); utf8 = λ u. IsUtf8-drop text i u at } in
        let start : ComesAfter text rest rest = record { origin = cut; further = cut_here rest } in
        ((keeps (ComesAfter text) (IsEntryAt text) (IsErrorAt text) (is_here text utf8) (moves_on text utf8) (entry (length text)) rest (IsEntryAt text)
        (entry_kept text utf8 rest (IsEntryAt text) (λ e located. located))).passes rest (computes (entry (length text)) rest) start ((agree (entry (length text))).sound rest)).outcome

    located : (result : Result (String Global × Span × Value Span × ℕ) HeaderFault) (expected : Result (Entry × List ℕ) Fault) → IsEntryAnswer (length text) result expected
        → IsEntryEnd expected → IfOk result (λ x. IsPiece text x.1 × IsCharBoundary text x.3)
    located (Ok (key, key_span, value, offset)) (Ok (read, rest)) answer end = (
      subst (λ (e : Entry). IsPiece text e.key_span) answer.0 end.1.0,
      subst (IsCharBoundary text) (sym answer.1) (boundary_cut text rest utf8 (whole_cut text utf8 (drop i text) rest end.0)),
    )
    located (Ok answered) (Err fault) answer end = absurd answer
    located (Err fault) expected answer end = tt

    refused : (result : Result (String Global × Span × Value Span × ℕ) HeaderFault) (expected : Result (Entry × List ℕ) Fault) → IsEntryAnswer (length text) result expected
        → IsEntryEnd expected → IfErr result (IsFaultAt text)
    refused (Ok answered) expected answer end = tt
    refused (Err faults.OutOfMemory) expected answer end = tt
    refused (Err (faults.Errors errors)) (Ok expected) answer end = absurd answer
    refused (Err (faults.Errors errors)) (Err fault) answer end =
        subst (All (IsErrorAt text)) (sym answer) (All-cons (IsErrorAt text) fault [] end (All-nil (IsErrorAt text)))

    pub entry_located : (result : Result (String Global × Span × Value Span × ℕ) HeaderFault) → ReturnsEntry (length text) (drop i text) result
        → IfOk result (λ x. IsPiece text x.1 × IsCharBoundary text x.3)
    entry_located result results = located result _ (results _ ((agree (entry (length text))).sound (drop i text))) entry_read

    pub entry_refused : (result : Result (String Global × Span × Value Span × ℕ) HeaderFault) → ReturnsEntry (length text) (drop i text) result
        → IfErr result (IsFaultAt text)
    entry_refused result results = refused result _ (results _ ((agree (entry (length text))).sound (drop i text))) entry_read
