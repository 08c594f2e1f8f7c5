-- Blanks: white space, commas, comments, and `#line` lines.
use Rattle.std.specs.Prelude.{ℕ, Bool, true, false, List, [], ◌∷◌, get_or, length, ◌-◌, ◌==◌, ◌||◌, ◌&&◌, not, Option, Some, None, codes}
use Rattle.constructs.specs.Pieces.{run, strip}
use Rattle.constructs.specs.Construct.{then, case_of, choice, here, again, ends, repeat, gives}
use Rattle.bison_words.specs.declared.class.Class.TheVariants.{Blank, Line, Digit}
use Rattle.bison_words.specs.declared.words.WordFaultKind.TheVariants.{IncompleteComment}
use Rattle.bison_words.specs.Bytes.{holds}
use Rattle.bison_words.specs.Here.{Lax, Turn, starts_with, passes, some_or, first_or, unended}

-- the nth byte before the end, or else the first one
abbrev pub from_end : ℕ → List ℕ → ℕ
from_end n text = get_or text (length text - n) 0

-- a line, without its LF, ends with `"`, or with `"` and CR
abbrev pub ends_with_quote : List ℕ → Bool
ends_with_quote line = from_end 1 line == 34 || (from_end 1 line == 13 && from_end 2 line == 34)

-- what follows the number of a `#line` line: nothing, or a blank and a file in quotes; and maybe a CR
abbrev pub is_file_quoted : Option (List ℕ) → Bool
is_file_quoted (Some opened) = ends_with_quote opened
is_file_quoted None = false

abbrev pub is_cr : List ℕ → Bool
is_cr (b ∷ []) = b == 13
is_cr _ = false

abbrev pub is_empty : List ℕ → Bool
is_empty [] = true
is_empty (b ∷ text) = false

abbrev pub is_line_end : List ℕ → Bool
is_line_end tail = is_empty tail || is_cr tail || is_file_quoted (strip (codes " \"") tail)

-- the text after `#line ` is a number and, if any, a file, up to an LF
abbrev pub is_numbered : List ℕ → Bool
is_numbered text = starts_with Digit text && not (is_empty (run (holds Line) text).1) && is_line_end (run (holds Digit) (run (holds Line) text).0).1

abbrev pub is_after_hash_line : Option (List ℕ) → Bool
is_after_hash_line (Some text) = is_numbered text
is_after_hash_line None = false

-- the text begins with a line `#line 5` or `#line 5 "file"`
unfoldable pub is_line_number : List ℕ → Bool
is_line_number text = is_after_hash_line (strip (codes "#line ") text)

-- where a line begins, such a line is a blank up to its LF
unfoldable pub line_number : Lax (Unit {0})
line_number = choice is_line_number (passes Line) (gives tt)

-- len is the whole text's length
module _ (len : ℕ) where
  -- the rest of a comment that begins at start
  unfoldable pub comment : List ℕ → Lax (Unit {0})
  comment start = first_or 42 (codes "/") (λ _. gives tt) (unended len start IncompleteComment)

  unfoldable pub blank_turn : Turn (Unit {0})
  blank_turn = here (λ start.
      some_or Blank (λ _. again tt)
      (case_of (codes "\n") (then line_number again)
      (case_of (codes "//") (then (passes Line) again)
      (case_of (codes "/*") (then (comment start) again)
      ends))))

  unfoldable pub blank : Lax (Unit {0})
  blank = repeat blank_turn
