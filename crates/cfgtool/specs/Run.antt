-- What a run of the program does with its arguments: how it ends, and what its output gets.
use Rattle.std.specs.Prelude.{◌≡◌, ℕ, List, [], ◌∷◌, Option, Some, Result, Bool, true}
use Rattle.std.specs.Str.{IsUtf8}
use Rattle.std.specs.Io.KnownBytes.{Keeps}
use Rattle.cfgprogram.specs.Kinds.{kind_named}
use Rattle.cfgprogram.specs.declared.kinds.KindArg.{KindArg}
use Rattle.cfgprogram.specs.declared.source.Input.{Input}
use Rattle.cfgprogram.specs.declared.source.Input.TheVariants as input
use Rattle.cfgsink.specs.declared.outcome.Outcome.{Outcome}
use Rattle.cfgsink.specs.declared.outcome.ReportFault.{ReportFault}
use Rattle.cfgtool.specs.Arguments.{asks_lexer, command_named}
use Rattle.cfgtool.specs.declared.arguments.Command.{Command}
use Rattle.cfgtool.specs.Endings.{Ending, Usage, Unreadable, NotUtf8, NoMemory, ending_of}
use Rattle.cfgtool.specs.Report.{ReportsLexer, ReportsText}

-- The run ends so, and nothing was written to its output.
abbrev pub EndsUnwritten : Ending → Option (List ℕ) → Option (List ℕ) → Ending → Type 0
EndsUnwritten why old new ending = (ending ≡ why) × Keeps old new

-- The arguments were wrong: the run ends with its usage, its source is as it was, and nothing was written to its output.
abbrev pub EndsUnread : {S : Type 0} → S → S → Option (List ℕ) → Option (List ℕ) → Ending → Type 0
EndsUnread before after old new ending = (after ≡ before) × EndsUnwritten Usage old new ending

-- The run ends as its report does, and its output gets what the report writes.
abbrev pub EndsReported : (Option (List ℕ) → Option (List ℕ) → Result Outcome ReportFault → Type 0) → Option (List ℕ) → Option (List ℕ) → Ending → Type 0
EndsReported Reported old new ending = (answer : Result Outcome ReportFault) × (ending ≡ ending_of answer) × Reported old new answer

module _ (old new : Option (List ℕ)) (ending : Ending) where
  -- What a run does with what its source returns for a file, if this holds of the file's bytes.
  abbrev pub WithBytes : List ℕ → Input → (List ℕ → Type 0) → Type 0
  WithBytes file input.Unreadable Holds = EndsUnwritten (Unreadable file) old new ending
  WithBytes file input.OutOfMemory Holds = EndsUnwritten NoMemory old new ending
  WithBytes file (input.Bytes bytes) Holds = Holds bytes.items

  -- What a run does with the bytes of a file, if this holds when they are text.
  abbrev pub WithText : List ℕ → List ℕ → Type 0 → Type 0
  WithText file bytes Holds = (IsUtf8 bytes → Holds) × ((IsUtf8 bytes → ⊥) → EndsUnwritten (NotUtf8 file) old new ending)

-- What a run of a kind and a command does with a file. `Fetches` says what a source may return for a file, and what the source then is:
-- it was `before`, and is `after`.
abbrev pub HandlesNames : {S : Type 0} → Option KindArg → Option Command → List ℕ → (S → List ℕ → Input → S → Type 0) → S → S → Option (List ℕ) → Option (List ℕ) → Ending → Type 0
HandlesNames (Some kind) (Some command) file Fetches before after old new ending =
    (answer : Input) × Fetches before file answer after
    × WithBytes old new ending file answer (λ text. WithText old new ending file text (EndsReported (ReportsText kind command text) old new ending))
HandlesNames kind command file Fetches before after old new ending = EndsUnread before after old new ending

-- what a run of the command `lex` does with the bytes of its two files
abbrev pub HandlesTexts : KindArg → List ℕ → List ℕ → List ℕ → List ℕ → Option (List ℕ) → Option (List ℕ) → Ending → Type 0
HandlesTexts kind file names text list old new ending =
    WithText old new ending file text (WithText old new ending names list (EndsReported (ReportsLexer kind text list) old new ending))

-- What it does with what its source, which is then `between`, returns for the first file: the second is read only if that is bytes.
abbrev pub HandlesFirst : {S : Type 0} → KindArg → List ℕ → List ℕ → Input → (S → List ℕ → Input → S → Type 0) → S → S → Option (List ℕ) → Option (List ℕ) → Ending → Type 0
HandlesFirst kind file names input.Unreadable Fetches between after old new ending = (after ≡ between) × EndsUnwritten (Unreadable file) old new ending
HandlesFirst kind file names input.OutOfMemory Fetches between after old new ending = (after ≡ between) × EndsUnwritten NoMemory old new ending
HandlesFirst kind file names (input.Bytes bytes) Fetches between after old new ending =
    (answer : Input) × Fetches between names answer after
    × WithBytes old new ending names answer (λ list. HandlesTexts kind file names bytes.items list old new ending)

-- what a run does with a kind and two files, if `lex` is requested correctly
abbrev pub HandlesLexer : {S : Type 0} → Option KindArg → Bool → List ℕ → List ℕ → (S → List ℕ → Input → S → Type 0) → S → S → Option (List ℕ) → Option (List ℕ) → Ending → Type 0
HandlesLexer {S} (Some kind) true file names Fetches before after old new ending =
    (answer : Input) × (between : S) × Fetches before file answer between × HandlesFirst kind file names answer Fetches between after old new ending
HandlesLexer kind requested file names Fetches before after old new ending = EndsUnread before after old new ending

-- what a run does with its arguments
abbrev pub HandlesArguments : {S : Type 0} → List (List ℕ) → (S → List ℕ → Input → S → Type 0) → S → S → Option (List ℕ) → Option (List ℕ) → Ending → Type 0
HandlesArguments (kind ∷ (command ∷ (file ∷ []))) Fetches before after old new ending =
    HandlesNames (kind_named kind) (command_named command) file Fetches before after old new ending
HandlesArguments (kind ∷ (command ∷ (file ∷ (names ∷ [])))) Fetches before after old new ending =
    HandlesLexer (kind_named kind) (asks_lexer command file names) file names Fetches before after old new ending
HandlesArguments arguments Fetches before after old new ending = EndsUnread before after old new ending
