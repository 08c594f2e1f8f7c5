-- Identifiers, numbers, marks, and what can't begin a word.
use Rattle.std.specs.Prelude.{ℕ, Bool, List, ◌==◌, ◌||◌, ◌&&◌, nat_lt, nat_le, codes}
use Rattle.std.specs.List.{prefix_len}
use Rattle.constructs.specs.Construct.{◌>>=◌, ◌>>◌, then, case_of, choice, here, again, ends, gives}
use Rattle.bison_words.specs.declared.class.Class.TheVariants.{Any, Letter, NameByte, Digit, Hexadecimal, Odd}
use Rattle.bison_words.specs.declared.words.WordFaultKind.TheVariants.{IllegalCharacters, IllegalIdentifier, IllegalInteger}
use Rattle.bison_words.specs.Bytes.{holds}
use Rattle.bison_words.specs.Words.{Identifier, Number, Colon, Semicolon, Bar, Equals}
use Rattle.bison_words.specs.Blanks.{is_empty}
use Rattle.bison_words.specs.Digits.{number_of}
use Rattle.bison_words.specs.Here.{Lax, Turn, TurnEnd, begins, starts_with, run_here, passes, some_or, byte_or, word_from, fault_from, odd_from}

-- `.` and `-` are odd too, so odd characters that reach further than an identifier are none
unfoldable pub is_identifier : List ℕ → Bool
is_identifier text = starts_with Letter text && nat_le (prefix_len (holds Odd) text) (prefix_len (holds NameByte) text)

-- `:` is an odd character, so more of them are no colon
unfoldable pub is_colon : List ℕ → Bool
is_colon text = begins (codes ":") text && prefix_len (holds Odd) text == 1

module _ (len : ℕ) where
  unfoldable pub identifier : Turn (Unit {0})
  identifier = here (λ start. some_or NameByte (λ name. do
    word_from len start (Identifier name)
    again tt)
      ends)

  -- a number above 2147483647 is a fault, and counts all the same
  unfoldable pub number_word : List ℕ → ℕ → Lax (Unit {0})
  number_word start number = do
    choice (λ _. nat_lt 2147483647 number) (fault_from len start IllegalInteger) (gives tt)
    word_from len start (Number number)

  -- the end of a number that begins at start: no letter may follow it
  unfoldable pub number_end : List ℕ → ℕ → List ℕ → TurnEnd (Unit {0})
  number_end start base digits =
      choice (λ text. is_empty digits || starts_with Letter text) (do
        passes NameByte
        odd_from len start IllegalIdentifier
        again tt)
      (then (number_word start (number_of base digits)) again)

  unfoldable pub hexadecimal : List ℕ → TurnEnd (Unit {0})
  hexadecimal start = do
    digits ← run_here Hexadecimal
    number_end start 16 digits

  unfoldable pub number : Turn (Unit {0})
  number = here (λ start.
      case_of (codes "0x") (hexadecimal start)
      (case_of (codes "0X") (hexadecimal start)
      (some_or Digit (λ digits. number_end start 10 digits) ends)))

  unfoldable pub mark : Turn (Unit {0})
  mark = here (λ start.
      case_of (codes ";") (then (word_from len start Semicolon) again)
      (case_of (codes "|") (then (word_from len start Bar) again)
      (case_of (codes "=") (then (word_from len start Equals) again)
      (case_of (codes ":") (then (word_from len start Colon) again)
      ends))))

  -- Odd characters that follow each other are one fault, and so is another character that no word begins with.
  unfoldable pub odd : Turn (Unit {0})
  odd = here (λ start.
      some_or Odd (λ _. then (odd_from len start IllegalCharacters) again)
      (byte_or Any (λ _. then (odd_from len start IllegalCharacters) again)
      ends))
