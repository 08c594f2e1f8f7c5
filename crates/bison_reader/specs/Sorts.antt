-- The sort of each word of a text.
use Rattle.std.specs.Prelude.{ℕ, true, false, List, map, filter_map, length}
use Rattle.constructs.specs.Construct.{computes}
use Rattle.bison_words.specs.TextWords.{text_words}
use Rattle.bison_words.specs.Words as words
use Rattle.bison_words.specs.Words.{Lexeme, Word, word_in}
use Rattle.bison_words.specs.declared.directive.Directive.{Directive}
use Rattle.bison_words.specs.declared.directive.Directive.TheVariants as directives
use Rattle.bison_reader.specs.FileGrammar.{items_of}
use Rattle.bison_reader.specs.Items.{Item}
use Rattle.bison_reader.specs.declared.item.Associativity.TheVariants.{Left, Right, Nonassoc, OnlyPrecedence}
use Rattle.bison_reader.specs.declared.sort.Declaration.TheVariants as declarations
use Rattle.bison_reader.specs.declared.sort.Modifier.TheVariants as modifiers
use Rattle.bison_reader.specs.declared.sort.Sort.{Sort}
use Rattle.bison_reader.specs.declared.sort.Sort.TheVariants as sorts
use Rattle.bison_reader.specs.declared.sort.Sort.TheVariants.{Declaration, Modifier}

-- what a directive declares, or does in a production
abbrev pub directive_sort : Directive → Sort
directive_sort directives.Token = Declaration declarations.Tokens
directive_sort directives.Term = Declaration declarations.Tokens
directive_sort directives.Nterm = Declaration declarations.Rules
directive_sort directives.SymbolType = Declaration declarations.Symbols
directive_sort directives.Left = Declaration (declarations.Level Left)
directive_sort directives.Right = Declaration (declarations.Level Right)
directive_sort directives.Nonassoc = Declaration (declarations.Level Nonassoc)
directive_sort directives.Binary = Declaration (declarations.Level Nonassoc)
directive_sort directives.Precedence = Declaration (declarations.Level OnlyPrecedence)
directive_sort directives.Start = Declaration declarations.Start
directive_sort directives.Union = Declaration declarations.NamedCode
directive_sort directives.Code = Declaration declarations.NamedCode
directive_sort directives.Destructor = Declaration declarations.SymbolsCode
directive_sort directives.Printer = Declaration declarations.SymbolsCode
directive_sort directives.DefaultPrec = Declaration (declarations.DefaultPrecedence true)
directive_sort directives.NoDefaultPrec = Declaration (declarations.DefaultPrecedence false)
directive_sort directives.FilePrefix = Declaration declarations.Text
directive_sort directives.Language = Declaration declarations.Text
directive_sort directives.NamePrefix = Declaration declarations.Text
directive_sort directives.Output = Declaration declarations.Text
directive_sort directives.Require = Declaration declarations.Text
directive_sort directives.Skeleton = Declaration declarations.Text
directive_sort directives.Define = Declaration declarations.Variable
directive_sort directives.Defines = Declaration declarations.OptionalText
directive_sort directives.Header = Declaration declarations.OptionalText
directive_sort directives.Expect = Declaration declarations.Expect
directive_sort directives.ExpectRr = Declaration declarations.ExpectReduceReduce
directive_sort directives.InitialAction = Declaration declarations.OnlyCode
directive_sort directives.LexParam = Declaration declarations.Codes
directive_sort directives.Param = Declaration declarations.Codes
directive_sort directives.ParseParam = Declaration declarations.Codes
directive_sort directives.Prec = Modifier modifiers.Precedence
directive_sort directives.Empty = Modifier modifiers.Empty
directive_sort directives.Dprec = Modifier modifiers.DynamicPrecedence
directive_sort directives.Merge = Modifier modifiers.Merge
directive_sort _ = Declaration declarations.Flag

abbrev pub lexeme_sort : Lexeme → Sort
lexeme_sort (words.Identifier name) = sorts.Identifier
lexeme_sort (words.Literal character) = sorts.Literal
lexeme_sort (words.String text) = sorts.String
lexeme_sort (words.Translatable text) = sorts.Translatable
lexeme_sort (words.Number number) = sorts.Number
lexeme_sort (words.Directed directive) = directive_sort directive
lexeme_sort words.Tag = sorts.Tag
lexeme_sort words.AnyTag = sorts.OtherTag
lexeme_sort words.NoTag = sorts.OtherTag
lexeme_sort words.Name = sorts.Name
lexeme_sort (words.Code text span) = sorts.Code
lexeme_sort words.Predicate = sorts.Predicate
lexeme_sort words.Prologue = sorts.Prologue
lexeme_sort words.Colon = sorts.Colon
lexeme_sort words.Semicolon = sorts.Semicolon
lexeme_sort words.Bar = sorts.Bar
lexeme_sort words.Equals = sorts.Equals
lexeme_sort words.Mark = sorts.Mark
lexeme_sort words.Fault = sorts.Fault
lexeme_sort words.End = sorts.End

abbrev pub sorts_of : List Word → List Sort
sorts_of = map (λ word. lexeme_sort word.lexeme)

-- what is read of a text: its words, the faults in them and its epilogue, as items
abbrev pub scanned : List ℕ → List words.Item
scanned text = (computes (text_words (length text)) text).items

abbrev pub words_in : List ℕ → List Word
words_in text = filter_map word_in (scanned text)

-- what the words of a text say
abbrev pub items_in : List ℕ → List Item
items_in text = items_of (sorts_of (words_in text))
