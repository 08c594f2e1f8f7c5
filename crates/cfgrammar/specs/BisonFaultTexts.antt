-- What is printed of why a file has no grammar.
use Rattle.std.specs.Prelude.{ℕ, List, codes}
use Rattle.std.specs.List.{join_by}
use Rattle.bison_errors.specs.ErrorTexts.{error_text}
use Rattle.cfgrammar.specs.declared.bison.fault.BisonFault.{BisonFault}
use Rattle.cfgrammar.specs.declared.bison.fault.BisonFault.TheVariants as faults

-- the text of each error, in order, with a line end between two of them
abbrev pub fault_text : BisonFault → List ℕ
fault_text (faults.Errors errors) = join_by (λ error. error_text error.kind) (codes "\n") errors.items
fault_text faults.StorageTooSmall = codes "Index type too small for this grammar"
fault_text faults.OutOfMemory = codes "out of memory"
