-- What is returned for a text that names its own kind.
use Rattle.std.specs.Prelude.{◌≡◌, ℕ, List, map, Option, Result, Ok, Err}
use Rattle.cfgitems.specs.Items.{Item}
use Rattle.cfgitems.specs.Syntax.{syntax_of}
use Rattle.cfgkinds.specs.declared.kind.YaccKind.{YaccKind}
use Rattle.cfgsection.specs.Named.{Names, NamesNoKind, Naming}
use Rattle.cfgerrors.specs.Errors.{GrammarError, header_error}
use Rattle.cfgerrors.specs.declared.error.YaccFault.{YaccFault}
use Rattle.cfgerrors.specs.declared.error.YaccFault.TheVariants as faults
use Rattle.cfgfaults.specs.declared.source.KindSource.{KindSource}
use Rattle.cfgfaults.specs.declared.source.KindSource.TheVariants as sources
use Rattle.cfgsyntax.specs.Faults.{errors_of}
use Rattle.cfgsyntax.specs.Parsed.{Parsed}
use Rattle.cfgsyntax.specs.Reads.{Stop, Reads, HasOneReading}

-- This was parsed from the text as a file of this kind: the text has one reading, and the syntax and the errors are those of that reading.
pub record IsParsedAs (kind : YaccKind) (text : List ℕ) (parsed : Parsed) : Type 0 where
  pub one : HasOneReading kind text
  pub kind_is : parsed.kind ≡ kind
  pub syntax : (items : List Item) (stop : Option Stop) → Reads kind text items stop → parsed.syntax ≡ syntax_of items
  pub errors : (items : List Item) (stop : Option Stop) → Reads kind text items stop → parsed.errors ≡ errors_of items stop

-- for a text that names this kind
abbrev pub ReturnsKind : YaccKind → List ℕ → Result Parsed YaccFault → Type 0
ReturnsKind kind text (Ok parsed) = IsParsedAs kind text parsed
ReturnsKind kind text (Err faults.OutOfMemory) = Unit {0}
ReturnsKind kind text (Err (faults.Errors reported)) = ⊥

-- for a text that names none, because of these errors
abbrev pub ReturnsErrors : List GrammarError → Result Parsed YaccFault → Type 0
ReturnsErrors errors (Ok parsed) = ⊥
ReturnsErrors errors (Err faults.OutOfMemory) = Unit {0}
ReturnsErrors errors (Err (faults.Errors reported)) = reported.items ≡ errors

abbrev pub ReturnsNaming : List ℕ → Naming → Result Parsed YaccFault → Type 0
ReturnsNaming text (Ok kind) result = ReturnsKind kind text result
ReturnsNaming text (Err errors) result = ReturnsErrors (map header_error errors) result

-- The text names a kind, or has errors that keep it from naming one, and this is the result.
abbrev pub ReturnsNamed : List ℕ → Result Parsed YaccFault → Type 0
ReturnsNamed text result = (NamesNoKind text → ⊥) × ((naming : Naming) × Names text naming × ReturnsNaming text naming result)

-- for a text that is read as a file of this kind if it names none
abbrev pub ReturnsNamedOr : YaccKind → List ℕ → Result (Parsed × KindSource) YaccFault → Type 0
ReturnsNamedOr default text (Ok (parsed, sources.Default)) = NamesNoKind text × IsParsedAs default text parsed
ReturnsNamedOr default text (Ok (parsed, sources.Section)) = ReturnsNamed text (Ok parsed)
ReturnsNamedOr default text (Err faults.OutOfMemory) = Unit {0}
ReturnsNamedOr default text (Err (faults.Errors reported)) = ReturnsNamed text (Err (faults.Errors reported))
