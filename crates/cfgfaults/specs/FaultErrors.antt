-- The errors for faults of a file, the kinds of those for what it declares more than once, those of a section as errors of a grammar, and
-- the error for a grammar that is too large.
use Rattle.std.specs.Prelude.{◌≡◌, List, [], ◌∷◌, map}
use Rattle.cfgwords.specs.declared.fault.Fault.{Fault}
use Rattle.cfgwords.specs.declared.fault.FaultKind.{FaultKind}
use Rattle.cfgwords.specs.declared.fault.FaultKind.TheVariants as faults
use Rattle.cfgitems.specs.declared.occurrence.UniqueKind.{UniqueKind}
use Rattle.cfgitems.specs.declared.occurrence.UniqueKind.TheVariants as unique
use Rattle.cfgsection.specs.declared.section.header_fault.HeaderFault.{HeaderFault}
use Rattle.cfgsection.specs.declared.section.header_fault.HeaderFault.TheVariants as header
use Rattle.cfgsection.specs.SectionReads.{errors_view}
use Rattle.cfgerrors.specs.Errors as kinds
use Rattle.cfgerrors.specs.Errors.{ErrorKind, GrammarError, StorageTooSmall, error_at, header_error}
use Rattle.cfgerrors.specs.declared.error.YaccFault.{YaccFault}
use Rattle.cfgerrors.specs.declared.error.YaccFault.TheVariants as shown

abbrev pub kind_of : FaultKind → ErrorKind
kind_of faults.IllegalInteger = kinds.IllegalInteger
kind_of faults.IllegalName = kinds.IllegalName
kind_of faults.IllegalString = kinds.IllegalString
kind_of faults.IncompleteRule = kinds.IncompleteRule
kind_of faults.IncompleteComment = kinds.IncompleteComment
kind_of faults.IncompleteAction = kinds.IncompleteAction
kind_of faults.InvalidString = kinds.InvalidString
kind_of faults.MissingColon = kinds.MissingColon
kind_of faults.MissingRightArrow = kinds.MissingRightArrow
kind_of faults.NonEmptyProduction = kinds.NonEmptyProduction
kind_of faults.PrematureEnd = kinds.PrematureEnd
kind_of faults.ProductionNotTerminated = kinds.ProductionNotTerminated
kind_of faults.UnknownDeclaration = kinds.UnknownDeclaration
kind_of faults.ReachedEOL = kinds.ReachedEOL
kind_of faults.UnknownSymbol = kinds.UnknownSymbol

-- the error for a fault of the file
abbrev pub error_of : Fault → GrammarError
error_of fault = error_at (kind_of fault.kind) fault.span

abbrev pub repeated_kind : UniqueKind → ErrorKind
repeated_kind unique.Start = kinds.DuplicateStartDeclaration
repeated_kind unique.Expect = kinds.DuplicateExpectDeclaration
repeated_kind unique.ExpectReduceReduce = kinds.DuplicateExpectRRDeclaration
repeated_kind unique.ActionType = kinds.DuplicateActiontypeDeclaration
repeated_kind unique.PrintedForm = kinds.DuplicateEPP
repeated_kind unique.Precedence = kinds.DuplicatePrecedence
repeated_kind unique.AvoidInsert = kinds.DuplicateAvoidInsertDeclaration
repeated_kind unique.ImplicitToken = kinds.DuplicateImplicitTokensDeclaration

-- the errors of a section, as those of a grammar
abbrev pub IsFaultOf : HeaderFault → YaccFault → Type 0
IsFaultOf fault shown.OutOfMemory = Unit {0}
IsFaultOf (header.Errors errors) (shown.Errors reported) = reported.items ≡ map header_error (errors_view errors.items)
IsFaultOf header.OutOfMemory (shown.Errors reported) = ⊥

-- the single error that the index type is too small
abbrev pub too_small : List GrammarError
too_small = error_at StorageTooSmall (record { start = 0; end = 0 }) ∷ []

abbrev pub IsTooSmall : YaccFault → Type 0
IsTooSmall shown.OutOfMemory = ⊥
IsTooSmall (shown.Errors reported) = reported.items ≡ too_small
