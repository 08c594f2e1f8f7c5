-- What is passed on the way to the byte that ends a word: single bytes, and pairs of bytes.
use Rattle.std.specs.Prelude.{ℕ, suc, ◌<◌, Bool, true, List, [], ◌∷◌, take, drop, ◌≡◌, ◌==◌, ◌&&◌, not, if◌then◌else◌}
use Rattle.cfgwords.specs.declared.passed.Passed.{Passed as Kind}
use Rattle.cfgwords.specs.declared.passed.Passed.TheVariants.{InString, BeforeColon, InQuotes}
use Rattle.cfgwords.specs.declared.bytes.ByteClass.TheVariants as bytes
use Rattle.cfgwords.specs.Bytes.{holds, is_line_end}

-- Single bytes: in a string all but its quote, a backslash, a CR and an LF; before a single colon all but a colon; between double quotes
-- all but a double quote and a backslash.
abbrev pub passes_one : Kind → ℕ → Bool
passes_one (InString quote) b = not (b == quote) && not (b == 92) && not (is_line_end b)
passes_one BeforeColon b = not (b == 58)
passes_one InQuotes b = not (b == 34) && not (b == 92)

-- Pairs: in a string a backslash and either quote; before a single colon two colons; between double quotes a backslash and anything but an
-- LF.
abbrev pub passes_two : Kind → ℕ → ℕ → Bool
passes_two (InString quote) b c = b == 92 && holds bytes.Quote c
passes_two BeforeColon b c = b == 58 && c == 58
passes_two InQuotes b c = b == 92 && not (c == 10)

pub data IsPassed (kind : Kind) : List ℕ → Type 0 where
  nothing : IsPassed kind []
  one : (b : ℕ) (rest : List ℕ) → passes_one kind b ≡ true → IsPassed kind rest → IsPassed kind (b ∷ rest)
  two : (b c : ℕ) (rest : List ℕ) → passes_two kind b c ≡ true → IsPassed kind rest → IsPassed kind (b ∷ c ∷ rest)

-- how many bytes at the start of the text are passed at once; 0 where passing stops
abbrev pub step_len : Kind → List ℕ → ℕ
step_len kind [] = 0
step_len kind (b ∷ []) = if passes_one kind b then 1 else 0
step_len kind (b ∷ c ∷ rest) = if passes_one kind b then 1 else if passes_two kind b c then 2 else 0

abbrev pub stops : Kind → List ℕ → Bool
stops kind text = step_len kind text == 0

-- a word ends in ASCII, if the string's quote is ASCII
abbrev pub EndsInAscii : Kind → Type 0
EndsInAscii (InString quote) = quote < 128
EndsInAscii BeforeColon = Unit {0}
EndsInAscii InQuotes = Unit {0}

-- The same as functions: how much is passed, and what is passed with the rest.

unfoldable pub passed_len : Kind → List ℕ → ℕ
passed_len kind [] = 0
passed_len kind (b ∷ []) = if passes_one kind b then 1 else 0
passed_len kind (b ∷ c ∷ rest) =
    if passes_one kind b then suc (passed_len kind (c ∷ rest)) else if passes_two kind b c then suc (suc (passed_len kind rest)) else 0

abbrev pub passed : Kind → List ℕ → List ℕ × List ℕ
passed kind text = (take (passed_len kind text) text, drop (passed_len kind text) text)
