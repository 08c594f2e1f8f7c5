-- The strings of `%epp`: a quote, any characters of a string, and the same quote, within one line. Inside, a backslash must precede a
-- quote, `"` or `'`; the string's value is what is inside, without the backslashes.
use Rattle.std.specs.Prelude.{◌≡◌, ℕ, true, false, List, [], ◌∷◌, ◌++◌, ◌==◌, not, Result, Ok, Err, if◌then◌else◌}
use Rattle.std.specs.List.{filter}
use denote.Ref.{Bor}
use Rattle.constructs.specs.Pieces.{starts}
use Rattle.cfgwords.specs.declared.fault.Fault.{Fault}
use Rattle.cfgwords.specs.declared.fault.FaultKind.TheVariants.{InvalidString}
use Rattle.cfgwords.specs.declared.bytes.ByteClass.TheVariants as bytes
use Rattle.cfgwords.specs.declared.passed.Passed.TheVariants.{InString}
use Rattle.cfgwords.specs.Bytes.{holds}
use Rattle.cfgwords.specs.Passed.{IsPassed, stops, passed}
use Rattle.cfgwords.specs.Text.{fault_at}

-- a text without its backslashes
abbrev pub unescaped : List ℕ → List ℕ
unescaped = filter (λ b. not (b == 92))

-- the string at the start of a text and the rest after it, or the fault
pub data EppString (len : ℕ) (text : List ℕ) : Result (List ℕ × List ℕ) Fault → Type 0 where
  closed : (quote : ℕ) (inside rest : List ℕ) → holds bytes.Quote quote ≡ true → IsPassed (InString quote) inside
      → text ≡ quote ∷ (inside ++ quote ∷ rest) → EppString len text (Ok (unescaped inside, rest))
  -- the text doesn't begin with a quote
  unopened : starts (holds bytes.Quote) text ≡ false → EppString len text (Err (fault_at len InvalidString text))
  -- at some offset after the quote the string neither continues nor is closed
  broken : (quote : ℕ) (inside left : List ℕ) → holds bytes.Quote quote ≡ true → IsPassed (InString quote) inside
      → text ≡ quote ∷ (inside ++ left) → stops (InString quote) left ≡ true → starts (λ b. b == quote) left ≡ false
      → EppString len text (Err (fault_at len InvalidString left))

-- The same as functions: what is between the quotes and after them, or the rest where the fault is.

abbrev pub closed_by : ℕ → List ℕ × List ℕ → Result (List ℕ × List ℕ) (List ℕ)
closed_by quote (inside, []) = Err []
closed_by quote (inside, b ∷ rest) = if b == quote then Ok (inside, rest) else Err (b ∷ rest)

unfoldable pub raw_string : List ℕ → Result (List ℕ × List ℕ) (List ℕ)
raw_string [] = Err []
raw_string (quote ∷ text) = if holds bytes.Quote quote then closed_by quote (passed (InString quote) text) else Err (quote ∷ text)

-- its value
abbrev pub string_value : ℕ → Result (List ℕ × List ℕ) (List ℕ) → Result (List ℕ × List ℕ) Fault
string_value len (Ok (inside, rest)) = Ok (unescaped inside, rest)
string_value len (Err left) = Err (fault_at len InvalidString left)

unfoldable pub epp_string : ℕ → List ℕ → Result (List ℕ × List ℕ) Fault
epp_string len text = string_value len (raw_string text)

-- what the code's result represents
abbrev pub raw_view : Result (Bor (List ℕ) × Bor (List ℕ)) (Bor (List ℕ)) → Result (List ℕ × List ℕ) (List ℕ)
raw_view (Ok (inside, rest)) = Ok (inside.now, rest.now)
raw_view (Err left) = Err left.now
