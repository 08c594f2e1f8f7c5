-- A text has one naming: its section's.
use Rattle.std.proofs.Common.{◌≡◌, ℕ, true, List, map, Option, Result, Ok, Err, Bor, Vec, Global, sym, ap, subst, ◌∙◌, option_map}
use Rattle.cfgkinds.specs.declared.kind.YaccKind.{YaccKind}
use Rattle.cfgsection.specs.declared.section.entry.Entry.{Entry as CodeEntry}
use Rattle.cfgsection.specs.declared.section.header_fault.HeaderFault.{HeaderFault}
use Rattle.cfgsection.specs.declared.section.header_fault.HeaderFault.TheVariants as faults
use Rattle.cfgsection.specs.SectionReads.{IsSectionRead, entry_view, section_of, given, given_by}
use Rattle.cfgsection.specs.Named.{Naming, IsNaming, kind_given, kind_in, Names, HasOneNaming}
use Rattle.cfgsection.proofs.SectionOne.{one_section, section_answered}
use Rattle.cfgkinds.specs.YaccKinds.{kind_namespace}

pub naming_is : (text : List ℕ) (naming : Naming) → Names text naming → kind_in (section_of true text) ≡ naming
naming_is text naming names = ap kind_in (section_answered true text names.entries names.end names.section) ∙ names.naming_is

pub naming_of : (text : List ℕ) → Names text (kind_in (section_of true text))
naming_of text =
    let one = one_section true text in
    record {
      entries = one.entries;
      end = one.end;
      section = one.is;
      naming_is = ap kind_in (sym (section_answered true text one.entries one.end one.is));
    }

pub one_naming : (text : List ℕ) → HasOneNaming text
one_naming text =
    record { naming = kind_in (section_of true text); names = naming_of text; only = λ other names. sym (naming_is text other names) }

-- of a section with errors
pub refused : (text : List ℕ) (fault : HeaderFault) → IsSectionRead (section_of true text) (Err fault)
    → (naming : Naming) → Names text naming → IsNaming naming (Err fault)
refused text (faults.Errors errors) read naming names = sym (naming_is text naming names) ∙ ap kind_in read
refused text faults.OutOfMemory read naming names = tt

-- of a section without errors
pub answered : (text : List ℕ) (entries : Vec CodeEntry Global) (rest : Bor (List ℕ)) (found : Option (Bor CodeEntry)) (result : Result YaccKind HeaderFault)
    → IsSectionRead (section_of true text) (Ok (entries, rest))
    → option_map (λ (e : Bor CodeEntry). given_by (entry_view e.now)) found ≡ given (map entry_view entries.items) kind_namespace
    → IsNaming (kind_given (option_map (λ (e : Bor CodeEntry). given_by (entry_view e.now)) found)) result
    → (naming : Naming) → Names text naming → IsNaming naming result
answered text entries rest found result read gives is naming names =
    subst (λ n. IsNaming n result) (ap kind_given gives ∙ ap kind_in (sym read) ∙ naming_is text naming names) is
