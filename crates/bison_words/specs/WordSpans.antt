-- Where the words of a text are, and where the faults in them are.
use Rattle.std.specs.Prelude.{◌≡◌, ℕ, ◌-◌, ◌≤◌, ⊤, Bool, true, false, not, List, [], ◌∷◌, take, drop, map, filter, All}
use Rattle.std.specs.List.{list_all}
use Rattle.constructs.specs.Pieces.{starts}
use Rattle.cfgbase.specs.declared.span.Span.{Span}
use Rattle.cfgwords.specs.TextSpans.{IsPiece, IsWithin}
use Rattle.bison_words.specs.declared.class.Class.TheVariants.{Letter, NameByte}
use Rattle.bison_words.specs.declared.words.Words.{Words as CodeWords}
use Rattle.bison_words.specs.Bytes.{holds}
use Rattle.bison_words.specs.Words.{Lexeme, Identifier, Code, Fault, Word, word_view}

-- what a span covers
abbrev pub covered : List ℕ → Span → List ℕ
covered text span = take (span.end - span.start) (drop span.start text)

-- A name is what its span covers: a letter, `_` or `.`, and then letters, digits, `_`, `.` and `-`.
pub record IsNameAt (text : List ℕ) (span : Span) (name : List ℕ) : Type 0 where
  pub begins : starts (holds Letter) name ≡ true
  pub bytes : list_all (holds NameByte) name ≡ true
  pub is_covered : covered text span ≡ name

-- The span of trimmed code begins where the untrimmed code does, so it may end inside a character.
abbrev pub IsLexemeAt : List ℕ → Span → Lexeme → Type 0
IsLexemeAt text span (Identifier name) = IsNameAt text span name
IsLexemeAt text span (Code code inside) = IsWithin text inside
IsLexemeAt text span _ = ⊤

pub record IsWordAt (text : List ℕ) (word : Word) : Type 0 where
  pub piece : IsPiece text word.span
  pub lexeme : IsLexemeAt text word.span word.lexeme

abbrev pub is_fault : Lexeme → Bool
is_fault Fault = true
is_fault _ = false

-- the words that aren't faults
abbrev pub without_faults : List Word → List Word
without_faults words = filter (λ word. not (is_fault word.lexeme)) words

-- each word ends where a later one begins, or before that
abbrev pub AreInOrder : List Word → Type 0
AreInOrder [] = ⊤
AreInOrder (word ∷ words) = All (λ later. word.span.end ≤ later.span.start) words × AreInOrder words

-- Words that are faults may be out of order, and so may faults: where a bracket and a comment inside it both don't end, the comment's fault
-- comes first.
pub record AreInText (text : List ℕ) (read : CodeWords) : Type 0 where
  pub words : All (IsWordAt text) (map word_view read.words.items)
  pub faults : All (λ fault. IsPiece text fault.span) read.faults.items
  pub order : AreInOrder (without_faults (map word_view read.words.items))
