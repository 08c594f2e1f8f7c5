-- Runs of one class of bytes, single bytes, and characters. `P text piece rest` says that the text is the piece followed by the rest.
use Rattle.std.specs.Prelude.{◌≡◌, ℕ, true, List, [], ◌∷◌, take, drop, min, Option, Some, None, Result, Ok, Err, if◌then◌else◌}
use Rattle.std.specs.List.{prefix_len}
use Rattle.constructs.specs.Pieces.{starts, IsRun, run}
use Rattle.bison_words.specs.declared.class.Class.{Class}
use Rattle.bison_words.specs.Bytes.{holds, is_ascii_of, is_continuation}

-- the longest run of a class, which may be empty
abbrev pub Run : Class → List ℕ → Result (List ℕ × List ℕ) ⊥ → Type 0
Run class text (Ok (word, rest)) = IsRun (holds class) text word rest
Run class text (Err fault) = ⊥

abbrev pub run_of : Class → List ℕ → Result (List ℕ × List ℕ) ⊥
run_of class text = Ok (run (holds class) text)

-- the longest run, of at least one byte
pub record IsSome (class : Class) (text word rest : List ℕ) : Type 0 where
  pub begins : starts (holds class) text ≡ true
  pub run : IsRun (holds class) text word rest

abbrev pub some_of : Class → List ℕ → Option (List ℕ × List ℕ)
some_of class text = if starts (holds class) text then Some (run (holds class) text) else None

-- one ASCII byte of a class
pub record IsByte (class : Class) (text : List ℕ) (byte : ℕ) (rest : List ℕ) : Type 0 where
  pub whole : text ≡ byte ∷ rest
  pub is_of : is_ascii_of class byte ≡ true

abbrev pub byte_of : Class → List ℕ → Option (ℕ × List ℕ)
byte_of class [] = None
byte_of class (b ∷ text) = if is_ascii_of class b then Some (b, text) else None

-- a run's prefix of at most so many bytes
abbrev pub few_of : Class → ℕ → List ℕ → Result (List ℕ × List ℕ) ⊥
few_of class most text = let n = min most (prefix_len (holds class) text) in Ok (take n text, drop n text)

abbrev pub Few : Class → ℕ → List ℕ → Result (List ℕ × List ℕ) ⊥ → Type 0
Few class most text r = few_of class most text ≡ r

-- one character: a byte and those that continue it; nothing at the text's end
abbrev pub character_of : List ℕ → Result (Unit {0} × List ℕ) ⊥
character_of [] = Ok (tt, [])
character_of (b ∷ text) = Ok (tt, (run is_continuation text).1)

abbrev pub Character : List ℕ → Result (Unit {0} × List ℕ) ⊥ → Type 0
Character text r = character_of text ≡ r
