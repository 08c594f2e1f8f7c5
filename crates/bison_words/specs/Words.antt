-- Words of a Yacc or Bison file, faults in them, and what is read of a text: items. An offset is named by the rest of the text from there on.
use Rattle.std.specs.Prelude.{ℕ, List, [], ◌∷◌, Option, Some, None, length, ◌-◌, ◌+◌, ◌≡◌, map, option_map, filter_map}
use Rattle.cfgbase.specs.declared.span.Span.{Span}
use Rattle.bison_words.specs.declared.directive.Directive.{Directive}
use Rattle.bison_words.specs.declared.words.WordFault.{WordFault}
use Rattle.bison_words.specs.declared.words.Lexeme.{Lexeme as CodeLexeme}
use Rattle.bison_words.specs.declared.words.Lexeme.TheVariants as code
use Rattle.bison_words.specs.declared.words.Word.{Word as CodeWord}
use Rattle.bison_words.specs.declared.words.Words.{Words as CodeWords}

-- what a word is
pub data Lexeme : Type 0 where
  Identifier : List ℕ → Lexeme
  Literal : ℕ → Lexeme
  String : List ℕ → Lexeme
  Translatable : List ℕ → Lexeme
  Number : ℕ → Lexeme
  Directed : Directive → Lexeme
  Tag : Lexeme
  AnyTag : Lexeme
  NoTag : Lexeme
  Name : Lexeme
  Code : List ℕ → Span → Lexeme
  Predicate : Lexeme
  Prologue : Lexeme
  Colon : Lexeme
  Semicolon : Lexeme
  Bar : Lexeme
  Equals : Lexeme
  Mark : Lexeme
  Fault : Lexeme
  End : Lexeme

pub record Word : Type 0 where
  pub lexeme : Lexeme
  pub span : Span

-- what counts as read
pub data Item : Type 0 where
  WordRead : Word → Item
  FaultRead : WordFault → Item
  EpilogueRead : List ℕ → Item

abbrev pub word_in : Item → Option Word
word_in (WordRead word) = Some word
word_in _ = None

abbrev pub fault_in : Item → Option WordFault
fault_in (FaultRead fault) = Some fault
fault_in _ = None

abbrev pub epilogue_in : Item → Option (List ℕ)
epilogue_in (EpilogueRead text) = Some text
epilogue_in _ = None

-- the offset where rest begins in a text of len bytes
abbrev pub offset_of : ℕ → List ℕ → ℕ
offset_of len rest = len - length rest

-- the span from where start begins to where end does
abbrev pub span_between : ℕ → List ℕ → List ℕ → Span
span_between len start end = record { start = offset_of len start; end = offset_of len end }

-- the span of the first n bytes of start
abbrev pub first_bytes : ℕ → List ℕ → ℕ → Span
first_bytes len start n = record { start = offset_of len start; end = offset_of len start + n }

-- what the code's values represent
abbrev pub lexeme_view : CodeLexeme → Lexeme
lexeme_view (code.Identifier name) = Identifier name.now
lexeme_view (code.Literal character) = Literal character
lexeme_view (code.String text) = String text.now
lexeme_view (code.Translatable text) = Translatable text.now
lexeme_view (code.Number number) = Number number
lexeme_view (code.Directive directive) = Directed directive
lexeme_view code.Tag = Tag
lexeme_view code.AnyTag = AnyTag
lexeme_view code.NoTag = NoTag
lexeme_view code.Name = Name
lexeme_view (code.Code it) = Code it.text.now it.span
lexeme_view code.Predicate = Predicate
lexeme_view code.Prologue = Prologue
lexeme_view code.Colon = Colon
lexeme_view code.Semicolon = Semicolon
lexeme_view code.Bar = Bar
lexeme_view code.Equals = Equals
lexeme_view code.Mark = Mark
lexeme_view code.Fault = Fault
lexeme_view code.End = End

abbrev pub word_view : CodeWord → Word
word_view word = record { lexeme = lexeme_view word.lexeme; span = word.span }

abbrev pub last_of : {A : Type 0} → List A → Option A
last_of [] = None
last_of (a ∷ []) = Some a
last_of (a ∷ b ∷ others) = last_of (b ∷ others)

-- what the items say
pub record IsWords (items : List Item) (words : CodeWords) : Type 0 where
  pub words_are : map word_view words.words.items ≡ filter_map word_in items
  pub faults_are : words.faults.items ≡ filter_map fault_in items
  pub epilogue_is : option_map (λ text. text.now) words.epilogue ≡ last_of (filter_map epilogue_in items)
