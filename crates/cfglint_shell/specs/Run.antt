-- How a run of the program ends, and what becomes of its source and its two outputs.
use Rattle.std.specs.Prelude.{◌≡◌, ℕ, ◌==◌, Bool, true, false, List, [], ◌∷◌, ◌++◌, Option, Result, Ok, Err, codes, if◌then◌else◌}
use Rattle.std.specs.declared.env.FillError.{FillError}
use Rattle.std.specs.declared.env.FillError.TheVariants.{NotPresent, TooLong}
use Rattle.std.specs.Io.KnownBytes.{Appends, Keeps}
use Rattle.cfgsink.specs.Sinks.{AppendsPrefix}
use Rattle.cfgsink.specs.declared.sink.WriteError.{WriteError}
use Rattle.cfgsink.specs.declared.sink.WriteError.TheVariants.{Closed, NoSpace, FileTooLarge, Other}
use Rattle.cfgprogram.specs.declared.arguments.ArgumentsFault.{ArgumentsFault}
use Rattle.cfgprogram.specs.declared.arguments.ArgumentsFault.TheVariants as arguments
use Rattle.cfgprogram.specs.declared.source.Input.{Input}
use Rattle.cfgprogram.specs.declared.source.ReadError.{ReadError}
use Rattle.cfglint_shell.specs.declared.linter.LintOptions.{LintOptions}
use Rattle.cfglint_shell.specs.Files.{AsksFirst, Lints}
use Rattle.cfglint_shell.specs.SarifLog.{document}
use Rattle.cfglint_shell.specs.Tally.{Tally, Printed, no_files, status_of, summary}
use Rattle.cfglint_shell.specs.Requests.{Options, Requested, Help, has_summary, Lint, Version, Wrong, requested, files_requested, help, usage, usage_error_text, version}

-- what a run has to write to its output and to its errors, and the status that it then ends with
pub record Answer : Type 0 where
  pub output : List ℕ
  pub errors : List ℕ
  pub status : ℕ

-- how a run ends: with its result, with one that the output didn't accept completely, for this reason, or out of memory
pub data Ending : Type 0 where
  Answered : Answer → Ending
  Unwritten : WriteError → Answer → Ending
  NoMemory : Ending

-- the status of a run whose output didn't accept all of a result with this status: nobody reads a closed pipe, so that is no fault
abbrev pub unwritten_status : WriteError → ℕ → ℕ
unwritten_status Closed status = status
unwritten_status NoSpace status = 2
unwritten_status FileTooLarge status = 2
unwritten_status Other status = 2

abbrev pub ending_status : Ending → ℕ
ending_status (Answered answer) = answer.status
ending_status (Unwritten error answer) = unwritten_status error answer.status
ending_status NoMemory = 3

-- the line about an output that didn't accept all, with the reason, if it is known; about a closed pipe there is none
abbrev pub unwritten_line : WriteError → List ℕ
unwritten_line Closed = []
unwritten_line NoSpace = codes "cfglint: cannot write: no space is left\n"
unwritten_line FileTooLarge = codes "cfglint: cannot write: the file would get too large\n"
unwritten_line Other = codes "cfglint: cannot write\n"

-- what is written to the errors
abbrev pub ending_errors : Ending → List ℕ
ending_errors (Answered answer) = answer.errors
ending_errors (Unwritten error answer) = answer.errors ++ unwritten_line error
ending_errors NoMemory = codes "cfglint: out of memory\n"

-- how many faults of its output a run with this ending met
abbrev pub ending_faults : Ending → ℕ
ending_faults (Answered answer) = 0
ending_faults (Unwritten error answer) = 1
ending_faults NoMemory = 0

-- the result of a run through files
abbrev pub answer_of : Options → Tally → Answer
answer_of options tally = record {
  output = document options.lint.format (tally.lines ++ (if has_summary options then summary options.lint.kind tally else []));
  errors = tally.faults;
  status = status_of options.denies tally;
}

-- the result of arguments that ask for a text
abbrev pub written : List ℕ → Answer
written text = record { output = text; errors = []; status = 0 }

-- the result of arguments that are wrong, as this line says
abbrev pub refused : List ℕ → Answer
refused line = record { output = []; errors = line ++ usage; status = 2 }

-- the arguments that the program is run on, where colours are the default or not: what users say comes later, and counts
abbrev pub with_colors : Bool → List (List ℕ) → List (List ℕ)
with_colors colors arguments = if colors then codes "--color=always" ∷ arguments else arguments

-- whether a variable is unset or empty, whose bytes the system copies like this; one that it can't copy is neither
abbrev pub is_unset_or_empty : Result ℕ FillError → Bool
is_unset_or_empty (Ok count) = count == 0
is_unset_or_empty (Err NotPresent) = true
is_unset_or_empty (Err TooLong) = false

-- how a run ends that has no arguments, for this reason: arguments that are not text are wrong
abbrev pub ending_without : ArgumentsFault → Ending
ending_without arguments.NotUtf8 = Answered (refused (codes "cfglint: an argument is not UTF-8\n"))
ending_without arguments.OutOfMemory = NoMemory

-- `Reports` says what may be reported about a text, `Fetches` what a source may return for a file, and what the source then is, and `reason`
-- why it then could not read the file. The source was `before`, and is `after`.
module _ (Reports : LintOptions → List ℕ → List ℕ → Printed → Type 0) {S : Type 0} (Fetches : S → List ℕ → Input → S → Type 0) (reason : S → ReadError) (before after : S) where
  -- the result of a request
  abbrev pub Answers : Requested → Answer → Type 0
  Answers Help answer = (after ≡ before) × (answer ≡ written help)
  Answers Version answer = (after ≡ before) × (answer ≡ written version)
  Answers (Wrong error) answer = (after ≡ before) × (answer ≡ refused (usage_error_text error))
  Answers (Lint options) answer = (tally : Tally) × Lints Reports options Fetches reason before no_files options.files after tally
      × (answer ≡ answer_of options tally)

  -- What a run does with its arguments, and its output's known bytes, where the output then gives this reason. If it runs out of memory,
  -- a prefix of the files that the arguments name was requested of the source, and nothing else.
  abbrev pub Handles : List (List ℕ) → WriteError → Option (List ℕ) → Option (List ℕ) → Ending → Type 0
  Handles arguments given old new (Answered answer) = Answers (requested arguments) answer × Appends old new answer.output
  Handles arguments given old new (Unwritten error answer) =
      (error ≡ given) × Answers (requested arguments) answer × AppendsPrefix old new answer.output
  Handles arguments given old new NoMemory = AsksFirst Fetches before after (files_requested (requested arguments)) × Keeps old new
