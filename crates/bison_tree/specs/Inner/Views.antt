-- What this crate's values represent.
use Rattle.std.specs.Prelude.{◌≡◌, ℕ, Bool, List, map}
use Rattle.std.specs.String.{string_bytes}
use Rattle.cfgitems.specs.Building.{has_name}
use Rattle.cfgitems.specs.Items.{Body}
use Rattle.cfgitems.specs.SyntaxView.{pair_view}
use Rattle.cfgwords.specs.FileWords.{Token}
use Rattle.bison_words.specs.Words.{Word, word_view}
use Rattle.bison_reader.specs.Items.{Production}
use Rattle.bison_tree.specs.Productions.{action_of, code_of, precedence_of, precedences_of, span_of}
use Rattle.bison_tree.specs.declared.aliases.Aliases.{Aliases}
use Rattle.bison_tree.specs.declared.productions.BodySymbol.{BodySymbol}
use Rattle.bison_tree.specs.declared.symbols.Symbols.{Symbols}

abbrev pub aliases_view : Aliases → List (List ℕ × List ℕ)
aliases_view aliases = map pair_view aliases.of_strings.entries

-- the tokens that have an alias are those of the strings
abbrev pub IsConsistent : Aliases → Type 0
IsConsistent aliases = map string_bytes aliases.tokens.keys ≡ map (λ alias. alias.1) (aliases_view aliases)

abbrev pub words_in : Symbols → List Word
words_in symbols = map word_view symbols.words.now

abbrev pub names_in : Symbols → List (List ℕ)
names_in symbols = map string_bytes symbols.names.now

abbrev pub is_token_in : Symbols → List ℕ → Bool
is_token_in symbols name = has_name name (map string_bytes symbols.tokens.now.keys)

-- as the tree's builder takes it
abbrev pub symbol_view : BodySymbol → Token
symbol_view symbol = record { name = string_bytes symbol.name; span = symbol.span; quoted = symbol.quoted; end = symbol.span.end }

-- the body of a production of these symbols
abbrev pub body_with : Symbols → List Token → Production → Body
body_with symbols body production = record {
  symbols = body;
  precedences = precedences_of (words_in symbols) (names_in symbols) (precedence_of production.parts);
  action = code_of (words_in symbols) (action_of production.parts);
  span = span_of (words_in symbols) production;
}
