-- Which symbols are tokens: those that a declaration says to be, each that a precedence is given to or taken from, each character and each
-- string, and the tokens that need no declaration.
use Rattle.std.specs.Prelude.{ℕ, Bool, true, false, List, [], ◌∷◌, ◌||◌, map, codes, slice_get, if◌then◌else◌}
use Rattle.std.specs.List.{flat_map}
use Rattle.std.specs.Option.{option_map_or}
use Rattle.std.specs.Str.{bytes_eq}
use Rattle.cfgbase.specs.declared.span.Span.{Span}
use Rattle.bison_words.specs.Words.{Lexeme, Word, Identifier, Literal, String, Translatable, End}
use Rattle.bison_reader.specs.Items.{Item, TokenGiven, AliasGiven, RuleGiven, SymbolListed, PrecedenceGiven, StartNamed, HeadRead, ProductionRead}
use Rattle.bison_reader.specs.declared.item.Part.{Part}
use Rattle.bison_reader.specs.declared.item.PartKind.{PartKind}
use Rattle.bison_reader.specs.declared.item.PartKind.TheVariants as parts
use Rattle.bison_tree.specs.Names.{name_at}

-- the lexeme and the span of a word by its number
abbrev pub lexeme_at : List Word → ℕ → Lexeme
lexeme_at words i = option_map_or (λ word. word.lexeme) (slice_get words i) End

abbrev pub nowhere : Span
nowhere = record { start = 0; end = 0 }

abbrev pub span_at : List Word → ℕ → Span
span_at words i = option_map_or (λ word. word.span) (slice_get words i) nowhere

-- tokens that need no declaration
abbrev pub is_built_in : List ℕ → Bool
is_built_in name = bytes_eq name (codes "error") || (bytes_eq name (codes "YYerror")
    || (bytes_eq name (codes "YYEOF") || bytes_eq name (codes "YYUNDEF")))

-- whether a symbol is a token by itself
abbrev pub is_token_itself : Lexeme → Bool
is_token_itself (Identifier name) = is_built_in name
is_token_itself (Literal character) = true
is_token_itself (String text) = true
is_token_itself (Translatable text) = true
is_token_itself _ = false

-- words are those of the file
module _ (words : List Word) where
  abbrev pub token_itself : ℕ → List ℕ
  token_itself word = if is_token_itself (lexeme_at words word) then word ∷ [] else []

  abbrev pub tokens_of_kind : PartKind → Part → List ℕ
  tokens_of_kind parts.Symbol part = token_itself part.word
  tokens_of_kind parts.Precedence part = part.last ∷ []
  tokens_of_kind _ part = []

  abbrev pub tokens_of_part : Part → List ℕ
  tokens_of_part part = tokens_of_kind part.kind part

  -- the words by which an item says that a symbol is a token
  abbrev pub tokens_in : Item → List ℕ
  tokens_in (TokenGiven symbol) = symbol ∷ []
  tokens_in (AliasGiven token string) = string ∷ []
  tokens_in (RuleGiven symbol) = token_itself symbol
  tokens_in (SymbolListed symbol) = token_itself symbol
  tokens_in (PrecedenceGiven associativity symbol) = symbol ∷ []
  tokens_in (StartNamed symbol) = token_itself symbol
  tokens_in (HeadRead symbol) = token_itself symbol
  tokens_in (ProductionRead production) = flat_map tokens_of_part production.parts
  tokens_in _ = []

  unfoldable pub tokens_of : List Item → List ℕ
  tokens_of items = flat_map tokens_in items

-- the names of tokens, by the words that are tokens
abbrev pub token_names : List (List ℕ) → List ℕ → List (List ℕ)
token_names names tokens = map (name_at names) tokens
