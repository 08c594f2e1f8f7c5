-- The spans of a section's errors: each error has at least one, and each is a piece of the text.
use Rattle.std.specs.Prelude.{ℕ, ◌<◌, List, length, All}
use Rattle.cfgbase.specs.declared.span.Span.{Span}
use Rattle.cfgwords.specs.TextSpans.{IsPiece}
use Rattle.cfgsection.specs.declared.section.header_fault.HeaderFault.{HeaderFault}
use Rattle.cfgsection.specs.declared.section.header_fault.HeaderFault.TheVariants as faults
use Rattle.cfgerrors.specs.HeaderErrors.{ShownError}
use Rattle.cfgsection.specs.SectionReads.{errors_view}

pub record IsErrorAt (text : List ℕ) (error : ShownError Span) : Type 0 where
  pub some : 0 < length error.locations
  pub each : All (IsPiece text) error.locations

-- So is each span of a refusal's errors. Running out of memory has no spans.
abbrev pub IsFaultAt : List ℕ → HeaderFault → Type 0
IsFaultAt text (faults.Errors errors) = All (IsErrorAt text) (errors_view errors.items)
IsFaultAt text faults.OutOfMemory = Unit {0}
