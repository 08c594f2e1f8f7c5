-- A run through files: what a source returns for each, and what is reported about it. `Reports` says what may be reported about a text,
-- `Fetches` what a source may return for a file, and what the source then is, and `reason` why it then could not read the file.
use Rattle.std.specs.Prelude.{◌≡◌, ℕ, List, [], ◌∷◌, ◌++◌}
use Rattle.std.specs.Str.{IsUtf8}
use Rattle.cfgprogram.specs.declared.source.Input.{Input}
use Rattle.cfgprogram.specs.declared.source.Input.TheVariants as input
use Rattle.cfgprogram.specs.declared.source.ReadError.{ReadError}
use Rattle.cfglint_shell.specs.declared.linter.LintOptions.{LintOptions}
use Rattle.cfglint_shell.specs.Requests.{Options, name_of}
use Rattle.cfglint_shell.specs.Tally.{FileOutcome, Linted, NoText, Tally, Printed, Unread, with_file}

module _ (Reports : LintOptions → List ℕ → List ℕ → Printed → Type 0) (options : Options) where
  -- what becomes of the bytes of a file of this name
  abbrev pub IsPrinted : List ℕ → List ℕ → FileOutcome → Type 0
  IsPrinted name bytes (Unread reason) = ⊥
  IsPrinted name bytes (NoText given) = (given ≡ bytes) × (IsUtf8 bytes → ⊥)
  IsPrinted name bytes (Linted printed) = IsUtf8 bytes × Reports options.lint name bytes printed

  -- what becomes of a file of this name for which a source returns this, and then gives this reason
  abbrev pub IsFileOutcome : List ℕ → Input → ReadError → FileOutcome → Type 0
  IsFileOutcome name input.Unreadable reason outcome = outcome ≡ Unread reason
  IsFileOutcome name input.OutOfMemory reason outcome = ⊥
  IsFileOutcome name (input.Bytes bytes) reason outcome = IsPrinted name bytes.items outcome

  -- From a source and a tally, files lead one by one to a source and a tally.
  pub data Lints {S : Type 0} (Fetches : S → List ℕ → Input → S → Type 0) (reason : S → ReadError) : S → Tally → List (List ℕ) → S → Tally → Type 0 where
    none : {source : S} {tally : Tally} → Lints Fetches reason source tally [] source tally
    next : {source between after : S} {tally last : Tally} {file : List ℕ} {files : List (List ℕ)} {answer : Input} (outcome : FileOutcome)
        → Fetches source file answer between → IsFileOutcome (name_of options file) answer (reason between) outcome
        → Lints Fetches reason between (with_file options.lint (name_of options file) outcome tally) files after last
        → Lints Fetches reason source tally (file ∷ files) after last

-- Files are requested of a source one by one.
pub data IsRequested {S : Type 0} (Fetches : S → List ℕ → Input → S → Type 0) : S → List (List ℕ) → S → Type 0 where
  none : {source : S} → IsRequested Fetches source [] source
  next : {source between after : S} {file : List ℕ} {files : List (List ℕ)} {answer : Input}
      → Fetches source file answer between → IsRequested Fetches between files after → IsRequested Fetches source (file ∷ files) after

-- a prefix of the files was requested of the source, and nothing else
pub record AsksFirst {S : Type 0} (Fetches : S → List ℕ → Input → S → Type 0) (before after : S) (files : List (List ℕ)) : Type 0 where
  pub prefix : List (List ℕ)
  pub back : List (List ℕ)
  pub are : files ≡ prefix ++ back
  pub fetched : IsRequested Fetches before prefix after
