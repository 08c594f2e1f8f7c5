-- What a sink does with bytes. Its own bytes, all that it accepted, are known if it reports them.
use Rattle.std.specs.Prelude.{◌≡◌, ℕ, ◌+◌, ◌<◌, ◌⊎◌, ◌==◌, ◌&&◌, nat_lt, if◌then◌else◌, List, length, take, Option, Result, Ok, Err}
use Rattle.std.specs.Io.KnownBytes.{Appends}

-- How many faults a write of these bytes counts: one if it returns a fault, or accepts none of some bytes.
abbrev pub faults_of : {E : Type 0} → Result ℕ E → List ℕ → ℕ
faults_of (Ok n) bytes = if n == 0 && nat_lt 0 (length bytes) then 1 else 0
faults_of (Err fault) bytes = 1

-- known bytes grow by a proper prefix of these bytes
abbrev pub AppendsPrefix : Option (List ℕ) → Option (List ℕ) → List ℕ → Type 0
AppendsPrefix old new bytes = (n : ℕ) × (n < length bytes) × Appends old new (take n bytes)

-- Known bytes grow by all of these and the count of faults stays the same, or they grow by a proper prefix of them and it grows by one.
abbrev pub AppendsOrFaults : Option (List ℕ) → Option (List ℕ) → ℕ → ℕ → List ℕ → Type 0
AppendsOrFaults old new faults_old faults_new bytes =
    ((faults_new ≡ faults_old) × Appends old new bytes) ⊎ ((faults_new ≡ faults_old + 1) × AppendsPrefix old new bytes)
