-- Text up to a single colon. From the start on, two adjacent colons are passed as a pair; line ends are passed too.
use Rattle.std.specs.Prelude.{◌≡◌, ℕ, Bool, false, List, [], ◌∷◌, ◌++◌, ◌==◌, Option, Some, None, Result, Ok, Err}
use Rattle.std.specs.Str.{trim}
use Rattle.constructs.specs.Pieces.{starts}
use Rattle.cfgwords.specs.declared.fault.Fault.{Fault}
use Rattle.cfgwords.specs.declared.fault.FaultKind.TheVariants.{ReachedEOL}
use Rattle.cfgwords.specs.declared.passed.Passed.TheVariants.{BeforeColon}
use Rattle.cfgwords.specs.Passed.{IsPassed, passed}
use Rattle.cfgwords.specs.Text.{fault_at}

abbrev pub is_colon : ℕ → Bool
is_colon b = b == 58

-- what precedes the first single colon, trimmed, and the rest from that colon on; or the fault, at the end
pub data ColonText (len : ℕ) (text : List ℕ) : Result (List ℕ × List ℕ) Fault → Type 0 where
  single : (inside tail : List ℕ) → IsPassed BeforeColon inside → text ≡ inside ++ 58 ∷ tail → starts is_colon tail ≡ false
      → ColonText len text (Ok (trim inside, 58 ∷ tail))
  missing : IsPassed BeforeColon text → ColonText len text (Err (fault_at len ReachedEOL []))

-- The same as functions.

abbrev pub colon_parts : List ℕ × List ℕ → Option (List ℕ × List ℕ)
colon_parts (inside, []) = None
colon_parts (inside, b ∷ tail) = Some (trim inside, b ∷ tail)

unfoldable pub before_colon : List ℕ → Option (List ℕ × List ℕ)
before_colon text = colon_parts (passed BeforeColon text)

abbrev pub colon_outcome : ℕ → Option (List ℕ × List ℕ) → Result (List ℕ × List ℕ) Fault
colon_outcome len (Some parts) = Ok parts
colon_outcome len None = Err (fault_at len ReachedEOL [])

unfoldable pub colon_text : ℕ → List ℕ → Result (List ℕ × List ℕ) Fault
colon_text len text = colon_outcome len (before_colon text)
