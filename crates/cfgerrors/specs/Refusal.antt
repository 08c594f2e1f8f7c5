-- A refusal has at least one error.
use Rattle.std.specs.Prelude.{◌<◌, length}
use Rattle.cfgerrors.specs.declared.error.YaccFault.{YaccFault}
use Rattle.cfgerrors.specs.declared.error.YaccFault.TheVariants as faults

-- The list of errors isn't empty. Running out of memory has no list.
abbrev pub ListsErrors : YaccFault → Type 0
ListsErrors (faults.Errors errors) = 0 < length errors.items
ListsErrors faults.OutOfMemory = Unit {0}
