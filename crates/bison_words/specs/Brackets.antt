-- Tags, and names in brackets.
use Rattle.std.specs.Prelude.{ℕ, Bool, true, false, List, [], ◌&&◌, codes}
use Rattle.constructs.specs.Construct.{◌>>=◌, ◌>>◌, then, case_of, choice, here, again, ends, gives}
use Rattle.bison_words.specs.declared.class.Class.TheVariants.{Any, Letter, NameByte, TagByte}
use Rattle.bison_words.specs.declared.nesting.Nesting.{Nesting}
use Rattle.bison_words.specs.declared.nesting.Nesting.TheVariants.{Opens, Closes, Stays}
use Rattle.bison_words.specs.declared.words.WordFaultKind.TheVariants.{IncompleteTag, IncompleteName, IllegalName}
use Rattle.bison_words.specs.Words.{Tag, AnyTag, NoTag, Name}
use Rattle.bison_words.specs.Blanks.{is_empty, blank}
use Rattle.bison_words.specs.Here.{Lax, Turn, starts_with, passes, some_or, first_or, word_from, fault_between, odd_between}
use Rattle.bison_words.specs.NestedHere.{closing}

-- `->` in a tag doesn't close it
unfoldable pub tag_piece : Turn Nesting
tag_piece =
    some_or TagByte (λ _. again Stays)
    (case_of (codes "<") (again Opens)
    (case_of (codes ">") (again Closes)
    (case_of (codes "->") (again Stays)
    (case_of (codes "-") (again Stays)
    ends))))

-- whether there is an identifier here
unfoldable pub inner_name : Lax Bool
inner_name = choice (starts_with Letter) (do
  passes NameByte
  gives true)
    (gives false)

-- len is the whole text's length
module _ (len : ℕ) where
  unfoldable pub tag_end : List ℕ → List ℕ → Bool → Lax (Unit {0})
  tag_end start opened closed = choice (λ _. closed) (word_from len start Tag) (odd_between len start opened IncompleteTag)

  unfoldable pub tag : Turn (Unit {0})
  tag = here (λ start.
      case_of (codes "<*>") (then (word_from len start AnyTag) again)
      (case_of (codes "<>") (then (word_from len start NoTag) again)
      (case_of (codes "<") (here (λ opened. do
        closed ← closing tag_piece
        tag_end start opened closed
        again tt))
      ends)))

  -- Nothing else may precede the closing bracket. There may be more, but that is a fault right before it, and the word counts all the same.
  unfoldable pub name_close : List ℕ → List ℕ → Bool → Lax (Unit {0})
  name_close start close proper = do
    choice (λ _. proper) (gives tt) (fault_between len close close IllegalName)
    word_from len start Name

  unfoldable pub name_end : List ℕ → List ℕ → Bool → Lax (Unit {0})
  name_end start opened found = here (λ close. first_or 93 []
      (λ body. name_close start close (found && is_empty body))
      (do
        odd_between len start opened IncompleteName
        passes Any))

  unfoldable pub name : Turn (Unit {0})
  name = here (λ start. case_of (codes "[") (here (λ opened. do
    blank len
    found ← inner_name
    blank len
    name_end start opened found
    again tt))
      ends)
