-- What holds of each span of an error, which has at least one, and of everything that was parsed.
use Rattle.std.specs.Prelude.{◌<◌, All, length}
use Rattle.cfgbase.specs.declared.span.Span.{Span}
use Rattle.cfgitems.specs.Syntax.{EachSpan}
use Rattle.cfgerrors.specs.Errors.{GrammarError}
use Rattle.cfgerrors.specs.declared.error.YaccFault.{YaccFault}
use Rattle.cfgerrors.specs.declared.error.YaccFault.TheVariants as faults
use Rattle.cfgsyntax.specs.Parsed.{Parsed}

-- an error has a span, and P holds of each of its spans
pub record EachErrorSpan (P : Span → Type 0) (error : GrammarError) : Type 0 where
  pub some : 0 < length error.spans
  pub each : All P error.spans

-- Q is for the spans of actions
pub record EachParsedSpan (P Q : Span → Type 0) (parsed : Parsed) : Type 0 where
  pub errors : All (EachErrorSpan P) parsed.errors
  pub syntax : EachSpan P Q parsed.syntax

-- P holds of each span of the errors; running out of memory has none.
abbrev pub EachFaultSpan : (Span → Type 0) → YaccFault → Type 0
EachFaultSpan P faults.OutOfMemory = Unit {0}
EachFaultSpan P (faults.Errors reported) = All (EachErrorSpan P) reported.items
