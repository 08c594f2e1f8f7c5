-- How a report ends, and a run of the program: with which status, and with which line on standard error.
use Rattle.std.specs.Prelude.{◌≡◌, ℕ, List, Vec, [], ◌++◌, Result, Ok, Err, codes}
use Rattle.std.specs.Global.{Global}
use Rattle.cfgtool.specs.declared.faults.RunFault.{RunFault}
use Rattle.cfgtool.specs.declared.faults.RunFault.TheVariants as why
use Rattle.cfgprogram.specs.declared.arguments.ArgumentsFault.{ArgumentsFault}
use Rattle.cfgprogram.specs.declared.arguments.ArgumentsFault.TheVariants as arguments
use Rattle.cfgsink.specs.declared.outcome.Outcome.{Outcome}
use Rattle.cfgsink.specs.declared.outcome.Outcome.TheVariants.{Done, Refused}
use Rattle.cfgsink.specs.declared.outcome.ReportFault.{ReportFault}
use Rattle.cfgsink.specs.declared.outcome.ReportFault.TheVariants as faults
use Rattle.cfgprogram.specs.declared.source.Input.{Input}
use Rattle.cfgprogram.specs.declared.source.Input.TheVariants as input

-- how a run ends: with a report, or why there is none
pub data Ending : Type 0 where
  Reported : Outcome → Ending
  Usage : Ending
  Unreadable : List ℕ → Ending
  NotUtf8 : List ℕ → Ending
  Unwritten : Ending
  NoMemory : Ending

abbrev pub status_of : Ending → ℕ
status_of (Reported Done) = 0
status_of (Reported Refused) = 1
status_of Usage = 2
status_of (Unreadable file) = 2
status_of (NotUtf8 file) = 2
status_of Unwritten = 2
status_of NoMemory = 3

-- the line on standard error, with FILE as it was given
abbrev pub line_of : Ending → List ℕ
line_of (Reported outcome) = []
line_of Usage = codes "usage: cfgtool KIND COMMAND FILE\n"
line_of (Unreadable file) = codes "cfgtool: cannot read " ++ (file ++ codes "\n")
line_of (NotUtf8 file) = codes "cfgtool: " ++ (file ++ codes " is not UTF-8\n")
line_of Unwritten = codes "cfgtool: cannot write\n"
line_of NoMemory = codes "cfgtool: out of memory\n"

-- how a run ends that failed for this reason
abbrev pub ending_with : RunFault → Ending
ending_with why.Usage = Usage
ending_with (why.Unreadable file) = Unreadable file.now
ending_with (why.NotUtf8 file) = NotUtf8 file.now
ending_with why.Write = Unwritten
ending_with why.OutOfMemory = NoMemory

-- how a run ends that has no arguments, for this reason: arguments that are not text are wrong usage
abbrev pub ending_without : ArgumentsFault → Ending
ending_without arguments.NotUtf8 = Usage
ending_without arguments.OutOfMemory = NoMemory

abbrev pub ending_in : Result Outcome RunFault → Ending
ending_in (Ok outcome) = Reported outcome
ending_in (Err fault) = ending_with fault

-- how a run ends if this is what its report returns
abbrev pub ending_of : Result Outcome ReportFault → Ending
ending_of (Ok outcome) = Reported outcome
ending_of (Err faults.Write) = Unwritten
ending_of (Err faults.OutOfMemory) = NoMemory

-- how many faults of its output a run with this ending met
abbrev pub faults_at : Ending → ℕ
faults_at (Reported outcome) = 0
faults_at Usage = 0
faults_at (Unreadable file) = 0
faults_at (NotUtf8 file) = 0
faults_at Unwritten = 1
faults_at NoMemory = 0

-- what a run continues with if a source returns this for a file: its bytes, or why there are none
abbrev pub IsFetched : List ℕ → Input → Result (Vec ℕ Global) RunFault → Type 0
IsFetched file (input.Bytes bytes) (Ok fetched) = fetched ≡ bytes
IsFetched file input.Unreadable (Err fault) = ending_with fault ≡ Unreadable file
IsFetched file input.OutOfMemory (Err fault) = ending_with fault ≡ NoMemory
IsFetched file answer fetched = ⊥
