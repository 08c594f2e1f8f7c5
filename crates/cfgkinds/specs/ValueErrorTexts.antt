-- What `{}` prints of why a value names no kind, in bytes.
use Rattle.std.specs.Prelude.{ℕ, List, codes}
use Rattle.cfgerrors.specs.HeaderErrors.{error_kind_view}
use Rattle.cfgerrors.specs.HeaderTexts.{kind_text}
use Rattle.cfgkinds.specs.declared.fault.KindFault.{KindFault}
use Rattle.cfgkinds.specs.declared.fault.KindFault.TheVariants.{Error, OutOfMemory}

abbrev pub kind_fault_text : {T : Type 0} → KindFault T → List ℕ
kind_fault_text (Error error) = kind_text (error_kind_view error.kind)
kind_fault_text OutOfMemory = codes "out of memory"
