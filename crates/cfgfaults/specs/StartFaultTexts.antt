-- What `{}` prints of why a syntax is not given another start, in bytes.
use Rattle.std.specs.Prelude.{ℕ, List, codes}
use Rattle.cfgerrors.specs.ErrorTexts.{error_text}
use Rattle.cfgfaults.specs.declared.start.StartFault.{StartFault}
use Rattle.cfgfaults.specs.declared.start.StartFault.TheVariants as faults

abbrev pub start_fault_text : StartFault → List ℕ
start_fault_text (faults.Modification error) = error_text error
start_fault_text faults.OutOfMemory = codes "out of memory"
