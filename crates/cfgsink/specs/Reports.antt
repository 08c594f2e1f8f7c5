-- What a report that was made adds to the sink that it is written to, and what is counted and shown if the sink fails.
use Rattle.std.specs.Prelude.{◌≡◌, ℕ, List, Option, Result, Ok, Err, String, codes, string_bytes}
use Rattle.std.specs.Global.{Global}
use Rattle.std.specs.Io.KnownBytes.{Appends, Keeps}
use Rattle.cfgsink.specs.declared.outcome.Outcome.{Outcome}
use Rattle.cfgsink.specs.declared.outcome.ReportFault.{ReportFault}
use Rattle.cfgsink.specs.declared.outcome.ReportFault.TheVariants as faults
use Rattle.cfgsink.specs.Sinks.{AppendsPrefix}

-- how many faults of its sink a report meets
abbrev pub faults_met : Result Outcome ReportFault → ℕ
faults_met (Ok outcome) = 0
faults_met (Err faults.Write) = 1
faults_met (Err faults.OutOfMemory) = 0

-- what `{}` prints of why a report failed
abbrev pub fault_text : ReportFault → List ℕ
fault_text faults.Write = codes "cannot write"
fault_text faults.OutOfMemory = codes "out of memory"

-- What is added to the known bytes of a sink for which this was made: all lines, or a proper prefix of them if it counted a fault; nothing
-- if memory ran out.
abbrev pub WritesMade : {E : Type 0} → Result (Outcome × String Global) E → Option (List ℕ) → Option (List ℕ)
    → Result Outcome ReportFault → Type 0
WritesMade (Ok made) old new (Ok outcome) = (outcome ≡ made.0) × Appends old new (string_bytes made.1)
WritesMade (Ok made) old new (Err faults.Write) = AppendsPrefix old new (string_bytes made.1)
WritesMade (Ok made) old new (Err faults.OutOfMemory) = ⊥
WritesMade (Err refused) old new (Err faults.OutOfMemory) = Keeps old new
WritesMade (Err refused) old new answer = ⊥
