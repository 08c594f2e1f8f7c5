-- What the crate's private functions say about one another.
use Rattle.std.specs.Prelude.{◌≡◌, ℕ, if◌then◌else◌, List, [], Option, map}
use Rattle.std.specs.Io.KnownBytes.{Appends}
use Rattle.cfgsink.specs.Sinks.{AppendsPrefix}
use Rattle.cfgsink.specs.declared.sink.WriteError.{WriteError}
use Rattle.cfglint_shell.specs.declared.arguments.Requested as requested_code
use Rattle.cfglint_shell.specs.declared.arguments.Requested.TheVariants as variants
use Rattle.cfglint_shell.specs.declared.arguments.Stop as stop_code
use Rattle.cfglint_shell.specs.declared.arguments.Stop.TheVariants as stop
use Rattle.cfglint_shell.specs.declared.arguments.Step as step_code
use Rattle.cfglint_shell.specs.declared.arguments.Step.TheVariants as step
use Rattle.cfglint_shell.specs.declared.arguments.Options as options_code
use Rattle.cfglint_shell.specs.declared.usage.UsageError as error_code
use Rattle.cfglint_shell.specs.declared.usage.UsageError.TheVariants as error
use Rattle.cfglint_shell.specs.Run.{Answer, Answered, Ending, NoMemory, Unwritten}
use Rattle.cfglint_shell.specs.Tally.{Tally, summary}
use Rattle.cfglint_shell.specs.Requests.{has_summary, Requested, Help, Lint, Version, Options, Wrong, Step, Goes, Stops, UsageError, UnknownOption, UnknownKind, UnknownDefaultKind, UnknownFormat, UnknownUnit, UnknownColor, UnknownFinding, MissingValue, NoFile, StandardInputTwice}

-- the code's options
abbrev pub options_view : options_code.Options → Options
options_view options = record {
  lint = options.lint;
  stdin_name = options.stdin_name.now;
  denies = options.denies;
  is_quiet = options.is_quiet;
  files = map (λ file. file.now) options.files.items;
}

-- what the code finds wrong with arguments
abbrev pub usage_error_view : error_code.UsageError → UsageError
usage_error_view (error.UnknownOption option) = UnknownOption option.now
usage_error_view (error.UnknownKind kind) = UnknownKind kind.now
usage_error_view (error.UnknownDefaultKind kind) = UnknownDefaultKind kind.now
usage_error_view (error.UnknownFormat format) = UnknownFormat format.now
usage_error_view (error.UnknownUnit unit) = UnknownUnit unit.now
usage_error_view (error.UnknownColor color) = UnknownColor color.now
usage_error_view (error.UnknownFinding finding) = UnknownFinding finding.now
usage_error_view (error.MissingValue option) = MissingValue option
usage_error_view error.NoFile = NoFile
usage_error_view error.StandardInputTwice = StandardInputTwice

abbrev pub stop_view : stop_code.Stop → Requested
stop_view stop.Help = Help
stop_view stop.Version = Version
stop_view (stop.Wrong error) = Wrong (usage_error_view error)

-- what the code does with an argument, which leaves these options
abbrev pub step_view : Options → step_code.Step → Step
step_view options (step.Goes expected) = Goes expected options
step_view options (step.Stops stop) = Stops (stop_view stop)

-- what the code's arguments request
abbrev pub requested_view : requested_code.Requested → Requested
requested_view (variants.Stops stop) = stop_view stop
requested_view (variants.Lint options) = Lint (options_view options)

-- the last line of the output with these options, if it has a summary
abbrev pub last_line : Options → Tally → List ℕ
last_line options tally = if has_summary options then summary options.lint.kind tally else []

-- how a run with this result ends, and what its output then gets, which then gives this reason
abbrev pub IsEnding : Answer → WriteError → Option (List ℕ) → Option (List ℕ) → Ending → Type 0
IsEnding answer reason old new (Answered given) = (given ≡ answer) × Appends old new answer.output
IsEnding answer reason old new (Unwritten error given) = (error ≡ reason) × (given ≡ answer) × AppendsPrefix old new answer.output
IsEnding answer reason old new NoMemory = ⊥
