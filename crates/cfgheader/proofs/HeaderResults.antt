-- What the parser of sections returns, given the section of its text.
use Rattle.std.proofs.Common.{◌≡◌, ℕ, Bool, List, length, map, Result, Ok, Err, Bor, Vec, Global, String, refl, sym, subst}
use Rattle.std.specs.Str.{IsUtf8, IsCharBoundary}
use Rattle.cfgbase.specs.declared.span.Span.{Span}
use Rattle.cfgmarks.specs.declared.markmap.MarkMap.{MarkMap}
use Rattle.cfgwords.specs.Text.{offset_of}
use Rattle.cfgwords.proofs.Cuts.{boundary_cut}
use Rattle.cfgkinds.specs.declared.value.HeaderValue.{HeaderValue}
use Rattle.cfgsection.specs.declared.section.entry.Entry.{Entry as CodeEntry}
use Rattle.cfgsection.specs.declared.section.header_fault.HeaderFault.{HeaderFault}
use Rattle.cfgsection.specs.declared.section.header_fault.HeaderFault.TheVariants as faults
use Rattle.cfgsection.specs.SectionGrammar.{Entry}
use Rattle.cfgsection.specs.SectionReads.{IsSectionRead, entry_view, section_of}
use Rattle.cfgsection.proofs.SectionOne.{section_answered}
use Rattle.cfgsection.proofs.SectionOffsets.{IsSectionAt, section_at}
use Rattle.cfgheader.specs.Headers.{ReturnsSection, IsHeaderOf, IsSectionAnswer}

-- what the plain program returns is what each reading gives
by_readings : (required : Bool) (text : List ℕ) (result : Result (MarkMap (String Global) (HeaderValue Span) × ℕ) HeaderFault)
    → IsSectionAnswer (length text) result (section_of required text) → ReturnsSection required text result
by_readings required text result answer entries end is = subst (IsSectionAnswer (length text) result) (section_answered required text entries end is) answer

module _ (required : Bool) (text : List ℕ) where
  pub header_results : (entries : Vec CodeEntry Global) (rest : Bor (List ℕ)) (header : MarkMap (String Global) (HeaderValue Span)) (offset : ℕ)
      → IsSectionRead (section_of required text) (Ok (entries, rest)) → IsHeaderOf (map entry_view entries.items) header → offset ≡ offset_of (length text) rest.now
      → ReturnsSection required text (Ok (header, offset))
  header_results entries rest header offset read holds at =
      by_readings required text (Ok (header, offset)) (subst (IsSectionAnswer (length text) (Ok (header, offset))) (sym read) (holds, at))

  pub fault_results : (fault : HeaderFault) → IsSectionRead (section_of required text) (Err fault) → ReturnsSection required text (Err fault)
  fault_results (faults.Errors errors) read =
      by_readings required text (Err (faults.Errors errors)) (subst (IsSectionAnswer (length text) (Err (faults.Errors errors))) (sym read) refl)
  fault_results faults.OutOfMemory read = by_readings required text (Err faults.OutOfMemory) tt

  -- the offset after the section is a character boundary of the text
  pub end_at : IsUtf8 text → (entries : List Entry) (rest : List ℕ) (offset : ℕ) → section_of required text ≡ Ok (entries, rest) → offset ≡ offset_of (length text) rest
      → IsCharBoundary text offset
  end_at utf8 entries rest offset read at =
      subst (IsCharBoundary text) (sym at) (boundary_cut text rest utf8 (subst (IsSectionAt text) read (section_at required text utf8)).0)
