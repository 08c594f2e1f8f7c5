-- An error in a section as plain data. T is the type of locations.
use Rattle.std.specs.Prelude.{ℕ, List}
use mathlib.Core.List.{List-discrete}
use native.Mathlib.Decide.{ℕ_discrete}
use Rattle.cfgbase.specs.declared.span.SpansKind.{SpansKind}
use Rattle.cfgbase.specs.declared.span.SpansKind.TheVariants.{DuplicationError, Error}
use Rattle.cfgerrors.specs.declared.header.HeaderErrorKind.{HeaderErrorKind}
use Rattle.cfgerrors.specs.declared.header.HeaderErrorKind.TheVariants as rust
use Rattle.cfgerrors.specs.declared.header.HeaderError.{HeaderError}

-- what is wrong, with texts as their bytes
pub data ShownErrorKind : Type 0 where
  MissingGrmtoolsSection : ShownErrorKind
  IllegalName : ShownErrorKind
  ExpectedToken : ℕ → ShownErrorKind
  UnexpectedToken : ℕ → List ℕ → ShownErrorKind
  DuplicateEntry : ShownErrorKind
  InvalidEntry : List ℕ → ShownErrorKind
  ConversionError : List ℕ → List ℕ → ShownErrorKind
  deriving Discrete as ShownErrorKind-discrete

-- what is wrong, and where
pub record ShownError (T : Type 0) : Type 0 where
  pub kind : ShownErrorKind
  pub locations : List T

-- a kind of the code, without the memory that holds its texts
abbrev pub error_kind_view : HeaderErrorKind → ShownErrorKind
error_kind_view rust.MissingGrmtoolsSection = MissingGrmtoolsSection
error_kind_view rust.IllegalName = IllegalName
error_kind_view (rust.ExpectedToken character) = ExpectedToken character
error_kind_view (rust.UnexpectedToken character hint) = UnexpectedToken character hint.now
error_kind_view rust.DuplicateEntry = DuplicateEntry
error_kind_view (rust.InvalidEntry what) = InvalidEntry what.now
error_kind_view (rust.ConversionError expected cause) = ConversionError expected.now cause.now

abbrev pub error_view : {T : Type 0} → HeaderError T → ShownError T
error_view error = record { kind = error_kind_view error.kind; locations = error.locations.items }

-- what the locations of an error mean
abbrev pub spanskind_of : ShownErrorKind → SpansKind
spanskind_of DuplicateEntry = DuplicationError
spanskind_of _ = Error

-- whether two kinds are the same
pub kinds_decided : Discrete ShownErrorKind
kinds_decided = ShownErrorKind-discrete ℕ_discrete (List-discrete ℕ_discrete)
