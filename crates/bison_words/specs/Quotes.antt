-- Character literals and strings. Escapes are replaced in literals; strings count as they are spelled.
use Rattle.std.specs.Prelude.{ℕ, Bool, true, false, List, [], ◌∷◌, ◌-◌, ◌==◌, ◌&&◌, nat_lt, length, take, get_or, Option, Some, None, codes, fold, is_none, if◌then◌else◌}
use Rattle.std.specs.List.{prefix_len}
use Rattle.constructs.specs.Construct.{◌>>=◌, ◌>>◌, case_of, choice, here, again, ends, many, gives}
use Rattle.bison_words.specs.declared.class.Class.{Class}
use Rattle.bison_words.specs.declared.class.Class.TheVariants.{Hexadecimal, Octal, Quote, Quoted, Escape}
use Rattle.bison_words.specs.declared.words.WordFaultKind.{WordFaultKind}
use Rattle.bison_words.specs.declared.words.WordFaultKind.TheVariants.{IllegalCharacters, IllegalEscape, EmptyLiteral, LongLiteral, IncompleteLiteral, IncompleteString}
use Rattle.bison_words.specs.Bytes.{holds}
use Rattle.bison_words.specs.Words.{Lexeme, Literal, String, Translatable}
use Rattle.bison_words.specs.Digits.{number_of}
use Rattle.bison_words.specs.Here.{Lax, Turn, begins, starts_with, some_or, byte_or, few_here, character_here, word_from, fault_from, fault_first}

-- the characters of `\a \b \f \n \r \t \v`; any other one is itself
abbrev pub escaped : ℕ → ℕ
escaped b = if b == 97 then 7 else if b == 98 then 8 else if b == 102 then 12 else if b == 110 then 10
    else if b == 114 then 13 else if b == 116 then 9 else if b == 118 then 11 else b

-- Part of what is between quotes: its first character, and whether it is one character. What is between quotes, in the same form, if it
-- isn't empty.
abbrev pub with_part : Option (ℕ × Bool) → ℕ × Bool → Option (ℕ × Bool)
with_part None part = Some part
with_part (Some (first, single)) part = Some (first, false)

abbrev pub parts_of : List (ℕ × Bool) → Option (ℕ × Bool)
parts_of parts = fold with_part None parts

-- the character of a literal; `?` if there is none, or if the literal isn't closed
abbrev pub literal_of : Option (ℕ × Bool) → ℕ
literal_of (Some (first, single)) = first
literal_of None = 63

abbrev pub is_long : Option (ℕ × Bool) → Bool
is_long (Some (first, true)) = false
is_long (Some (first, false)) = true
is_long None = false

abbrev pub if_closed : Bool → Option (ℕ × Bool) → Option (ℕ × Bool)
if_closed true parts = parts
if_closed false parts = Some (63, true)

-- what precedes rest in text
abbrev pub before : List ℕ → List ℕ → List ℕ
before text rest = take (length text - length rest) text

-- len is the whole text's length
module _ (len : ℕ) where
  -- an escape that begins at start, of the digits here: at least and at most so many
  unfoldable pub numbered_value : List ℕ → ℕ → Lax ℕ
  numbered_value start value = choice (λ _. nat_lt 0 value && nat_lt value 256) (gives value) (do
    fault_from len start IllegalEscape
    gives 63)

  unfoldable pub numbered : List ℕ → Class → ℕ → ℕ → ℕ → Lax ℕ
  numbered start class base least most = choice (λ text. nat_lt (prefix_len (holds class) text) least)
      (do
        fault_from len start IllegalEscape
        gives 63)
      (do
        digits ← few_here class most
        numbered_value start (number_of base digits))

  unfoldable pub illegal_escape : List ℕ → Lax ℕ
  illegal_escape start = do
    character_here
    fault_from len start IllegalEscape
    gives 63

  -- what follows the backslash at start
  unfoldable pub escape : List ℕ → Lax ℕ
  escape start =
      byte_or Escape (λ b. gives (escaped b))
      (choice (starts_with Octal) (numbered start Octal 8 1 3)
      (case_of (codes "x") (numbered start Hexadecimal 16 1 len)
      (case_of (codes "u") (numbered start Hexadecimal 16 4 4)
      (case_of (codes "U") (numbered start Hexadecimal 16 8 8)
      (illegal_escape start)))))

  -- a part of what is between quotes that are closed so
  unfoldable pub quoted_part : List ℕ → Turn (ℕ × Bool)
  quoted_part close = here (λ start. choice (begins close) ends
      (case_of (codes "\\") (do
        b ← escape start
        again (b, true))
      (case_of (0 ∷ []) (do
        fault_from len start IllegalCharacters
        again (63, true))
      (byte_or Quote (λ b. again (b, true))
      (some_or Quoted (λ run. again (get_or run 0 0, length run == 1))
      ends)))))

  unfoldable pub quoted : List ℕ → Lax (Option (ℕ × Bool))
  quoted close = do
    parts ← many (quoted_part close)
    gives (parts_of parts)

  -- whether the quotes that begin at start are closed
  unfoldable pub quotes_end : List ℕ → List ℕ → WordFaultKind → Lax Bool
  quotes_end start close kind = case_of close (gives true) (do
    fault_first len start 1 kind
    gives false)

  unfoldable pub literal_word : List ℕ → Option (ℕ × Bool) → Lax (Unit {0})
  literal_word start parts = do
    choice (λ _. is_none parts) (fault_from len start EmptyLiteral) (choice (λ _. is_long parts) (fault_from len start LongLiteral) (gives tt))
    word_from len start (Literal (literal_of parts))

  unfoldable pub literal : Turn (Unit {0})
  literal = here (λ start. case_of (codes "'") (do
    parts ← quoted (codes "'")
    closed ← quotes_end start (codes "'") IncompleteLiteral
    literal_word start (if_closed closed parts)
    again tt)
      ends)

  -- the string in the quotes here, of a word that begins at start
  unfoldable pub string_word : List ℕ → List ℕ → (List ℕ → Lexeme) → Turn (Unit {0})
  string_word start close lexeme = here (λ quote. case_of (codes "\"") (here (λ opened. do
    quoted close
    here (λ closing. do
      quotes_end quote close IncompleteString
      word_from len start (lexeme (before opened closing))
      again tt)))
      ends)

  unfoldable pub string : Turn (Unit {0})
  string = here (λ start. string_word start (codes "\"") String)

  unfoldable pub translatable : Turn (Unit {0})
  translatable = here (λ start. case_of (codes "_(") (string_word start (codes "\")") Translatable) ends)
