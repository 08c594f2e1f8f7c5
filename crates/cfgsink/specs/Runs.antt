-- How a run of a program ends: its status, and what becomes of its two sinks.
use Rattle.std.specs.Prelude.{◌≡◌, ℕ, ◌+◌, List, Option}
use Rattle.cfgsink.specs.Sinks.{AppendsOrFaults}

-- A run that was given the sinks `out` and `err` ends with this status. `status_of`, `faults_of` and `line_of` say of an ending its
-- status, how many faults of its output it met, and what is written to its errors; `Handles`, what its output's known bytes become.
abbrev pub EndsWith : {Ending O E : Type 0} → (Ending → ℕ) → (Ending → ℕ) → (Ending → List ℕ) → (Option (List ℕ) → Option (List ℕ) → Ending → Type 0)
    → (O → Option (List ℕ)) → (O → ℕ) → O → O → (E → Option (List ℕ)) → (E → ℕ) → E → E → ℕ → Type 0
EndsWith {Ending} status_of faults_of line_of Handles out_written out_faults out out_then err_written err_faults err err_then status =
    (ending : Ending) × (status ≡ status_of ending) × Handles (out_written out) (out_written out_then) ending
    × (out_faults out_then ≡ out_faults out + faults_of ending)
    × AppendsOrFaults (err_written err) (err_written err_then) (err_faults err) (err_faults err_then) (line_of ending)
