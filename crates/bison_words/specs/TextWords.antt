-- The words of a text, up to the second `%%` or the end, and the epilogue after that.
use Rattle.std.specs.Prelude.{ℕ, Bool, false, List, ◌||◌, ◌&&◌, Option, Some, None, codes}
use Rattle.constructs.specs.Pieces.{run, strip}
use Rattle.constructs.specs.Construct.{◌>>◌, then, case_of, choice, here, again, ends, repeat, gives, emits}
use Rattle.bison_words.specs.declared.class.Class.TheVariants.{Space, Letter, NameByte, Digit, Mark as MarkByte}
use Rattle.bison_words.specs.declared.directive.Directive.{Directive}
use Rattle.bison_words.specs.declared.words.WordFaultKind.TheVariants.{IllegalCharacters, UnknownDirective}
use Rattle.bison_words.specs.Bytes.{holds}
use Rattle.bison_words.specs.Directives.{directive_named, takes_equals}
use Rattle.bison_words.specs.Words.{EpilogueRead, Directed, Mark, End}
use Rattle.bison_words.specs.Blanks.{blank, line_number}
use Rattle.bison_words.specs.Names.{is_identifier, is_colon, identifier, number, mark, odd}
use Rattle.bison_words.specs.Quotes.{literal, string, translatable}
use Rattle.bison_words.specs.Brackets.{tag, name}
use Rattle.bison_words.specs.Code.{code, predicate, prologue, code_piece}
use Rattle.bison_words.specs.Here.{Lax, Turn, TurnEnd, begins, starts_with, passes, some_or, word_from, odd_from}

-- `%?` and, maybe after blanks, a brace
abbrev pub is_brace_left : Option (List ℕ) → Bool
is_brace_left (Some rest) = begins (codes "{") (run (holds Space) rest).1
is_brace_left None = false

unfoldable pub is_predicate : List ℕ → Bool
is_predicate text = is_brace_left (strip (codes "%?") text)

-- maybe after blanks, a `=`
unfoldable pub is_equals : List ℕ → Bool
is_equals text = begins (codes "=") (run (holds Space) text).1

unfoldable pub equals : Lax (Unit {0})
equals = do
  passes Space
  case_of (codes "=") (gives tt) (gives tt)

unfoldable pub is_mark : List ℕ → Bool
is_mark text = starts_with MarkByte text || is_colon text

-- len is the whole text's length
module _ (len : ℕ) where
  -- an `=` belongs to a directive that it may follow
  unfoldable pub directive_end : List ℕ → Directive → Lax (Unit {0})
  directive_end start directive = do
    choice (λ text. takes_equals directive && is_equals text) equals (gives tt)
    word_from len start (Directed directive)

  abbrev pub directive_word : List ℕ → Option Directive → Lax (Unit {0})
  directive_word start (Some directive) = directive_end start directive
  directive_word start None = odd_from len start UnknownDirective

  -- the name of the directive whose `%` is at start
  unfoldable pub directive_name : List ℕ → TurnEnd (Unit {0})
  directive_name start = some_or NameByte (λ name. then (directive_word start (directive_named name)) again) (then (odd_from len start IllegalCharacters) again)

  unfoldable pub directive : Turn (Unit {0})
  directive = here (λ start. case_of (codes "%")
      (choice (starts_with Letter) (directive_name start) (then (odd_from len start IllegalCharacters) again))
      ends)

  unfoldable pub percent : Turn (Unit {0})
  percent = choice (begins (codes "%{")) (prologue len)
      (choice is_predicate (predicate len)
      directive)

  unfoldable pub bracketed : Turn (Unit {0})
  bracketed = choice (begins (codes "'")) (literal len)
      (choice (begins (codes "\"")) (string len)
      (choice (begins (codes "<")) (tag len)
      (choice (begins (codes "[")) (name len)
      (choice (begins (codes "{")) (code len)
      (odd len)))))

  unfoldable pub word : Turn (Unit {0})
  word = choice (begins (codes "%")) percent
      (choice (begins (codes "_(\"")) (translatable len)
      (choice is_identifier (identifier len)
      (choice (starts_with Digit) (number len)
      (choice is_mark (mark len)
      bracketed))))

  -- a blank and a word, unless a `%%` or the text's end follows
  unfoldable pub word_turn : Turn (Unit {0})
  word_turn = do
    blank len
    choice (begins (codes "%%")) ends word

  unfoldable pub words : Lax (Unit {0})
  words = repeat word_turn

  -- what follows the second `%%`, unchanged; it is code
  unfoldable pub epilogue : Lax (Unit {0})
  epilogue = do
    here (λ text. emits (EpilogueRead text))
    repeat (code_piece len)

  -- a `%%`, and what follows it
  unfoldable pub mark_then : Lax (Unit {0}) → Lax (Unit {0})
  mark_then c = here (λ start. case_of (codes "%%") (do
    word_from len start Mark
    c)
      (gives tt))

  unfoldable pub sections : Lax (Unit {0})
  sections = do
    words
    mark_then (do
      words
      mark_then epilogue)

  unfoldable pub text_words : Lax (Unit {0})
  text_words = do
    line_number
    sections
    here (λ rest. word_from len rest End)
