-- What each symbol of a file is called. A name belongs to the number of the word that it is of.
use Rattle.std.specs.Prelude.{ℕ, Bool, List, [], ◌∷◌, ◌++◌, ◌==◌, ◌||◌, length, map, filter_map, fold, get_or, encode_utf8, Option, Some, None, codes, if◌then◌else◌}
use Rattle.std.specs.List.{list_any}
use Rattle.std.specs.Map.{lookup}
use Rattle.std.specs.Option.{option_map_or}
use Rattle.std.specs.Str.{bytes_eq}
use Rattle.lemmas.specs.Lists.{pushed_unless}
use Rattle.cfgitems.specs.Building.{has_entry, has_name}
use Rattle.bison_words.specs.Words.{Lexeme, Word, Identifier, Literal, String, Translatable}
use Rattle.bison_reader.specs.Items.{Item, AliasGiven}

-- the name of a word by its number
abbrev pub name_at : List (List ℕ) → ℕ → List ℕ
name_at names word = get_or names word []

-- names, each once
abbrev pub with_one : List (List ℕ) → List ℕ → List (List ℕ)
with_one names name = pushed_unless (has_name name names) names name

abbrev pub each_once : List (List ℕ) → List (List ℕ)
each_once names = fold with_one [] names

-- an identifier of one byte
abbrev pub letter_in : Lexeme → Option (List ℕ)
letter_in (Identifier name) = if length name == 1 then Some name else None
letter_in _ = None

-- the identifiers of one byte among words
abbrev pub letters_of : List Word → List (List ℕ)
letters_of words = filter_map (λ word. letter_in word.lexeme) words

abbrev pub in_quotes : List ℕ → List ℕ → List ℕ
in_quotes quote text = quote ++ (text ++ quote)

-- the name of a character: in quotes, if it is an identifier too
abbrev pub character_name : (List ℕ → Bool) → List ℕ → List ℕ
character_name is_letter character = if is_letter character then in_quotes (codes "'") character else character

-- the name that a word has by itself; other words than symbols have none. is_letter says which names are identifiers of one byte.
abbrev pub own_name : (List ℕ → Bool) → Lexeme → List ℕ
own_name is_letter (Identifier name) = name
own_name is_letter (Literal character) = character_name is_letter (encode_utf8 character)
own_name is_letter (String text) = in_quotes (codes "\"") text
own_name is_letter (Translatable text) = in_quotes (codes "\"") text
own_name is_letter _ = []

abbrev pub own_names : List Word → List (List ℕ)
own_names words = map (λ word. own_name (λ name. has_name name (letters_of words)) word.lexeme) words

-- Names, each with the token that it is another name of. Of a name's tokens and of a token's other names the first counts, and a token
-- by another name has that one.
abbrev pub is_taken : List (List ℕ × List ℕ) → List ℕ × List ℕ → Bool
is_taken aliases (string, token) = has_entry string aliases
    || (has_entry token aliases || list_any (λ alias. bytes_eq token alias.1) aliases)

abbrev pub with_alias : List (List ℕ × List ℕ) → List ℕ × List ℕ → List (List ℕ × List ℕ)
with_alias aliases alias = pushed_unless (is_taken aliases alias) aliases alias

-- those that need no declaration
abbrev pub built_in : List (List ℕ × List ℕ)
built_in = (codes "YYerror", codes "error") ∷ (codes "$undefined", codes "YYUNDEF") ∷ []

abbrev pub alias_in : List (List ℕ) → Item → Option (List ℕ × List ℕ)
alias_in own (AliasGiven token string) = Some (name_at own string, name_at own token)
alias_in own _ = None

abbrev pub aliases_of : List (List ℕ) → List Item → List (List ℕ × List ℕ)
aliases_of own items = fold with_alias built_in (filter_map (alias_in own) items)

-- a name that is another name of a token is that token
abbrev pub called : List (List ℕ × List ℕ) → List ℕ → List ℕ
called aliases name = option_map_or (λ token. token) (lookup (bytes_eq name) aliases) name

-- the name of each word
unfoldable pub names_of : List Word → List Item → List (List ℕ)
names_of words items = map (called (aliases_of (own_names words) items)) (own_names words)
