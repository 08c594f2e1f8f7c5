-- Code: what is between braces, in a prologue, and in the epilogue. Comments, strings and character literals in it have to end.
use Rattle.std.specs.Prelude.{ℕ, Bool, false, List, ◌+◌, ◌-◌, ◌==◌, ◌||◌, length, take, Option, Some, None, codes, if◌then◌else◌}
use Rattle.std.specs.Str.{trim}
use Rattle.constructs.specs.Pieces.{run, strip}
use Rattle.constructs.specs.Construct.{◌>>=◌, ◌>>◌, case_of, choice, here, again, ends, repeat, gives}
use Rattle.bison_words.specs.declared.class.Class.TheVariants.{Gap, Line, Space, Comment, CommentLine, CodeQuoted, CodeByte, Quote}
use Rattle.bison_words.specs.declared.nesting.Nesting.{Nesting}
use Rattle.bison_words.specs.declared.nesting.Nesting.TheVariants.{Opens, Lowers, Closes, Stays}
use Rattle.bison_words.specs.declared.words.WordFaultKind.{WordFaultKind}
use Rattle.bison_words.specs.declared.words.WordFaultKind.TheVariants.{IncompleteComment, IncompleteLiteral, IncompleteString, IncompleteCode, IncompletePrologue}
use Rattle.bison_words.specs.Bytes.{holds}
use Rattle.bison_words.specs.Words.{Lexeme, Code, Predicate, Prologue, offset_of}
use Rattle.bison_words.specs.Blanks.{from_end}
use Rattle.bison_words.specs.Quotes.{before}
use Rattle.bison_words.specs.Here.{Lax, Turn, TurnEnd, begins, passes, some_or, byte_or, word_from, fault_first, odd_between}
use Rattle.bison_words.specs.NestedHere.{closing}

-- A splice is a backslash at the end of a line, where blanks may follow it. It joins the line to the next one.
abbrev pub is_line_left : List ℕ → Bool
is_line_left rest = begins (codes "\r\n") rest || begins (codes "\n") rest

abbrev pub is_after_backslash : Option (List ℕ) → Bool
is_after_backslash (Some rest) = is_line_left (run (holds Gap) rest).1
is_after_backslash None = false

unfoldable pub is_splice : List ℕ → Bool
is_splice text = is_after_backslash (strip (codes "\\") text)

unfoldable pub splice : Turn (Unit {0})
splice = case_of (codes "\\") (do
  passes Gap
  case_of (codes "\r\n") (again tt) (case_of (codes "\n") (again tt) ends))
    ends

unfoldable pub splice_turn : Turn (Unit {0})
splice_turn = choice is_splice splice ends

unfoldable pub splices : Lax (Unit {0})
splices = repeat splice_turn

-- a part of a line comment, up to the line's end
unfoldable pub line_part : Turn (Unit {0})
line_part = choice is_splice splice
    (case_of (codes "\\") (again tt)
    (some_or CommentLine (λ _. again tt) ends))

-- a part of a comment: up to a `*`, after which a `/` ends the comment
unfoldable pub comment_part : Turn (Unit {0})
comment_part =
    some_or Comment (λ _. again tt)
    (case_of (codes "*") (do
      splices
      choice (begins (codes "/")) (gives None) (again tt))
    ends)

-- a part of what is between quotes: a character after a backslash doesn't close them
unfoldable pub escaped_part : TurnEnd (Unit {0})
escaped_part = do
  splices
  byte_or Line (λ _. again tt) (again tt)

unfoldable pub quotes_part : List ℕ → Turn (Unit {0})
quotes_part close = choice (begins close) ends
    (choice is_splice splice
    (case_of (codes "\\") escaped_part
    (byte_or Quote (λ _. again tt)
    (some_or CodeQuoted (λ _. again tt)
    ends))))

-- a `<` or a `%`, which with another character, maybe after splices, may be a brace
unfoldable pub less_piece : TurnEnd Nesting
less_piece = do
  splices
  case_of (codes "%") (again Opens) (case_of (codes "<") (again Stays) (again Stays))

unfoldable pub percent_piece : TurnEnd Nesting
percent_piece = do
  splices
  case_of (codes ">") (again Lowers) (again Stays)

-- code's text: what precedes the brace that closes it, without white space around that
abbrev pub without_brace : List ℕ → List ℕ
without_brace text = if from_end 1 text == 125 then take (length text - 1) text else text

abbrev pub code_text : List ℕ → List ℕ → List ℕ
code_text opened rest = trim (without_brace (before opened rest))

-- len is the whole text's length
module _ (len : ℕ) where
  -- the rest of a comment that begins at start
  unfoldable pub code_comment : List ℕ → Lax (Unit {0})
  code_comment start = do
    repeat comment_part
    case_of (codes "/") (gives tt) (fault_first len start 2 IncompleteComment)

  unfoldable pub slash_piece : List ℕ → TurnEnd Nesting
  slash_piece start = do
    splices
    case_of (codes "*") (code_comment start) (case_of (codes "/") (repeat line_part) (gives tt))
    again Stays

  -- the rest of quotes that begin at start
  unfoldable pub code_quotes : List ℕ → List ℕ → WordFaultKind → TurnEnd Nesting
  code_quotes start close kind = do
    repeat (quotes_part close)
    case_of close (gives tt) (fault_first len start 1 kind)
    again Stays

  unfoldable pub code_piece : Turn Nesting
  code_piece = here (λ start.
      some_or CodeByte (λ _. again Stays)
      (case_of (codes "/") (slash_piece start)
      (case_of (codes "<") less_piece
      (case_of (codes "%") percent_piece
      (case_of (codes "{") (again Opens)
      (case_of (codes "}") (again Closes)
      (case_of (codes "\"") (code_quotes start (codes "\"") IncompleteString)
      (case_of (codes "'") (code_quotes start (codes "'") IncompleteLiteral)
      ends))))))))

  -- the end of code that begins at start, and whose brace precedes opened
  abbrev pub code_lexeme : List ℕ → List ℕ → Lexeme
  code_lexeme opened rest = Code (code_text opened rest) (record { start = offset_of len opened; end = offset_of len opened + length (code_text opened rest) })

  unfoldable pub code_end : List ℕ → List ℕ → (List ℕ → Lexeme) → Bool → Lax (Unit {0})
  code_end start opened lexeme closed = choice (λ _. closed) (here (λ rest. word_from len start (lexeme rest))) (odd_between len start opened IncompleteCode)

  unfoldable pub braces : List ℕ → (List ℕ → List ℕ → Lexeme) → Turn (Unit {0})
  braces start lexeme = case_of (codes "{") (here (λ opened. do
    closed ← closing code_piece
    code_end start opened (lexeme opened) closed
    again tt))
      ends

  unfoldable pub code : Turn (Unit {0})
  code = here (λ start. braces start code_lexeme)

  unfoldable pub predicate : Turn (Unit {0})
  predicate = here (λ start. case_of (codes "%?") (do
    passes Space
    braces start (λ opened rest. Predicate))
      ends)

  -- pieces of a prologue, up to its `%}`, which may not be in a comment or in quotes
  unfoldable pub prologue_piece : Turn Nesting
  prologue_piece = choice (begins (codes "%}")) ends code_piece

  unfoldable pub prologue_end : List ℕ → List ℕ → Lax (Unit {0})
  prologue_end start opened = case_of (codes "%}") (word_from len start Prologue) (odd_between len start opened IncompletePrologue)

  unfoldable pub prologue : Turn (Unit {0})
  prologue = here (λ start. case_of (codes "%{") (here (λ opened. do
    repeat prologue_piece
    prologue_end start opened
    again tt))
      ends)
