-- The spans of an error, and what they mean.
use Rattle.std.specs.Prelude.{List, [], ◌∷◌, Option, Some, None}
use Rattle.cfgbase.specs.declared.span.Span.{Span}
use Rattle.cfgbase.specs.declared.span.SpansKind.{SpansKind}
use Rattle.cfgbase.specs.declared.span.SpansKind.TheVariants as spans
use Rattle.bison_errors.specs.declared.error.Error.{Error}
use Rattle.bison_errors.specs.declared.error.ErrorKind.{ErrorKind}
use Rattle.bison_errors.specs.declared.error.ErrorKind.TheVariants as kinds

-- errors that have another place
abbrev pub spanskind_of : ErrorKind → SpansKind
spanskind_of kinds.RepeatedInProduction = spans.DuplicationError
spanskind_of kinds.SeveralStarts = spans.DuplicationError
spanskind_of kinds.RuleIsToken = spans.DuplicationError
spanskind_of kinds.DuplicatePrecedence = spans.DuplicationError
spanskind_of _ = spans.Error

-- where the error is, and then the other place
abbrev pub with_other : Span → Option Span → List Span
with_other span None = span ∷ []
with_other span (Some other) = span ∷ other ∷ []

abbrev pub spans_of : Error → List Span
spans_of error = with_other error.span error.other
