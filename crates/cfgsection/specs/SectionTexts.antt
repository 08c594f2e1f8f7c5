-- What `{}` prints of a refused section, in bytes: the text of each error, in order, with a line end between two of them.
use Rattle.std.specs.Prelude.{ℕ, List, codes}
use Rattle.std.specs.List.{join_by}
use Rattle.cfgsection.specs.declared.section.header_fault.HeaderFault.{HeaderFault}
use Rattle.cfgsection.specs.declared.section.header_fault.HeaderFault.TheVariants.{Errors, OutOfMemory}
use Rattle.cfgerrors.specs.HeaderErrors.{error_kind_view}
use Rattle.cfgerrors.specs.HeaderTexts.{kind_text}

abbrev pub fault_text : HeaderFault → List ℕ
fault_text (Errors errors) = join_by (λ error. kind_text (error_kind_view error.kind)) (codes "\n") errors.items
fault_text OutOfMemory = codes "out of memory"
