-- The rest after the section of a text.
use Rattle.std.proofs.Common.{◌≡◌, ℕ, ◌≤◌, false, List, Ok, Err, length, ap, subst, arith, length-append}
use Rattle.std.specs.Str.{IsUtf8}
use Rattle.cfgsection.specs.declared.section.header_fault.HeaderFault.{HeaderFault}
use Rattle.cfgsection.specs.declared.section.header_fault.HeaderFault.TheVariants as header
use Rattle.cfgsection.specs.SectionGrammar.{Entry}
use Rattle.cfgsection.specs.SectionReads.{IsSectionRead, section_of}
use Rattle.cfgsection.proofs.SectionOffsets.{IsSectionAt, section_at}
use Rattle.cfgsyntax.specs.Inner.Steps.{IsReadSection}

pub shorter : (text : List ℕ) → IsUtf8 text → (entries : List Entry) (rest : List ℕ) → section_of false text ≡ Ok (entries, rest) → length rest ≤ length text
shorter text utf8 entries rest is =
    let cut = (subst (IsSectionAt text) is (section_at false text utf8)).0 in
    omega (arith, ap length cut.whole, length-append cut.piece rest)

pub faulty : (text : List ℕ) (fault : HeaderFault) → IsSectionRead (section_of false text) (Err fault) → IsReadSection text (Err fault)
faulty text (header.Errors errors) read = read
faulty text header.OutOfMemory read = tt
