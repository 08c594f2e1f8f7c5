-- What making the grammar of a file returns.
use Rattle.std.specs.Prelude.{◌≡◌, ◌≢◌, ℕ, [], Result, Ok, Err}
use Rattle.cfgitems.specs.Syntax.{Syntax}
use Rattle.cfgkinds.specs.declared.kind.YaccKind.{YaccKind}
use Rattle.cfgkinds.specs.declared.kind.YaccKind.TheVariants.{Original}
use Rattle.cfgkinds.specs.declared.kind.YaccOriginalActionKind.TheVariants.{UserAction}
use Rattle.cfgnumbers.specs.Fits.{Fits}
use Rattle.cfgnumbers.specs.Numbered.{Numbered, numbered}
use Rattle.cfgrammar.specs.BisonParsedFile.{ParsedFile}
use Rattle.cfgrammar.specs.declared.bison.fault.BisonFault.{BisonFault}
use Rattle.cfgrammar.specs.declared.bison.fault.BisonFault.TheVariants as faults

-- the kind of which such files are trees
abbrev pub bison_kind : YaccKind
bison_kind = Original UserAction

-- what a file says, in numbers
abbrev pub bison_numbers : ParsedFile → Numbered
bison_numbers file = numbered bison_kind file.syntax

-- For an index type with this greatest number: the grammar if the file has no errors and the type can count it, and otherwise why there is
-- none. Running out of memory says nothing about the file.
abbrev pub IsBisonAnswer : ℕ → ParsedFile → Result Numbered BisonFault → Type 0
IsBisonAnswer max file (Ok grammar) = (file.errors ≡ []) × Fits max (bison_numbers file) × (grammar ≡ bison_numbers file)
IsBisonAnswer max file (Err (faults.Errors errors)) = (file.errors ≢ []) × (errors.items ≡ file.errors)
IsBisonAnswer max file (Err faults.StorageTooSmall) = (file.errors ≡ []) × (Fits max (bison_numbers file) → ⊥)
IsBisonAnswer max file (Err faults.OutOfMemory) = Unit {0}
