-- Aliases that a token has already: the string is not an alias of the later token, as in Bison.
use Rattle.std.specs.Prelude.{ℕ, Bool, true, false, List, [], ◌∷◌, ◌++◌, codes, Option, None, Some, if◌then◌else◌}
use Rattle.cfgrammar.specs.Span.{Span}
use Rattle.bison_words.specs.declared.directive.Directive.TheVariants.{Term, Token}
use Rattle.bison_words.specs.Words.{Directed, Lexeme, Mark, Semicolon, String, Translatable, Word}
use Rattle.finding_kinds.specs.declared.finding_kind.FindingKind.TheVariants.{RepeatedAlias}
use Rattle.text_findings.specs.Finding.{ShownFinding}
use Rattle.bison_findings.specs.Defines.{is_among}

-- what is between the quotes of a string
abbrev pub string_in : Lexeme → Option (List ℕ)
string_in (String text) = Some text
string_in (Translatable text) = Some text
string_in _ = None

-- Whether the words after a word are in a list of `%token`, if the word itself is or isn't. Another directive, a `;` or a `%%` ends a list.
abbrev pub is_listed_after : Bool → Lexeme → Bool
is_listed_after is_listed (Directed Token) = true
is_listed_after is_listed (Directed Term) = true
is_listed_after is_listed (Directed _) = false
is_listed_after is_listed Semicolon = false
is_listed_after is_listed Mark = false
is_listed_after is_listed _ = is_listed

-- the alias that a word is: in a list of `%token` each string is one
abbrev pub alias_in : Bool → Lexeme → Option (List ℕ)
alias_in true lexeme = string_in lexeme
alias_in false lexeme = None

-- that a token has the alias already
abbrev pub repeated_alias : List ℕ → Span → ShownFinding
repeated_alias name span = record {
  kind = RepeatedAlias;
  spans = span ∷ [];
  text = codes "Repeated alias \"" ++ (name ++ codes "\": a token has it already");
  hint = None;
}

-- the finding about an alias at a span, if it is one of those before it, and these with it, each once
abbrev pub repeats : List (List ℕ) → Option (List ℕ) → Span → List ShownFinding
repeats known None span = []
repeats known (Some name) span = if is_among known name then repeated_alias name span ∷ [] else []

abbrev pub known_with : List (List ℕ) → Option (List ℕ) → List (List ℕ)
known_with known None = known
known_with known (Some name) = if is_among known name then known else known ++ name ∷ []

-- the findings about words that begin in a list of `%token` or outside of one; known are the aliases before them
abbrev pub repeated_after : Bool → List (List ℕ) → List Word → List ShownFinding
repeated_after is_listed known [] = []
repeated_after is_listed known (word ∷ rest) = repeats known (alias_in is_listed word.lexeme) word.span
    ++ repeated_after (is_listed_after is_listed word.lexeme) (known_with known (alias_in is_listed word.lexeme)) rest

-- the findings about the words of a file
abbrev pub repeated_aliases : List Word → List ShownFinding
repeated_aliases words = repeated_after false [] words
