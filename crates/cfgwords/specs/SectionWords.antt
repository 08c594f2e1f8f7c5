-- Words of a section: white space, names, and texts between quotes. `P text word rest` says that the text is the word followed by the rest.
use Rattle.std.specs.Prelude.{◌≡◌, ℕ, List, [], ◌∷◌, ◌++◌, ◌+◌, Option, option_map, codes}
use Rattle.std.specs.Option.{option_and_then}
use Rattle.std.specs.Str.{str_to_ascii_lowercase}
use Rattle.cfgbase.specs.declared.span.Span.{Span}
use Rattle.constructs.specs.Pieces.{strip}
use Rattle.cfgwords.specs.declared.bytes.ByteClass.TheVariants as bytes
use Rattle.cfgwords.specs.declared.passed.Passed.TheVariants.{InQuotes}
use Rattle.cfgwords.specs.Passed.{IsPassed, passed}
use Rattle.cfgwords.specs.Text.{offset_of, span_of}
use Rattle.cfgwords.specs.FileWords.{IsRunFrom, run_from}

-- The characters of white space, each by its first byte and the further ones: U+0009 to U+000D and U+0020,
abbrev pub ascii_characters : List (ℕ × List ℕ)
ascii_characters = (9, []) ∷ (10, []) ∷ (11, []) ∷ (12, []) ∷ (13, []) ∷ (32, []) ∷ []

-- and U+0085, U+200E, U+200F, U+2028, U+2029
abbrev pub wide_characters : List (ℕ × List ℕ)
wide_characters = (194, 133 ∷ []) ∷ (226, 128 ∷ 142 ∷ []) ∷ (226, 128 ∷ 143 ∷ []) ∷ (226, 128 ∷ 168 ∷ []) ∷ (226, 128 ∷ 169 ∷ []) ∷ []

-- a name: longest `[a-zA-Z][a-zA-Z_]*`
abbrev pub IsName : List ℕ → List ℕ → List ℕ → Type 0
IsName = IsRunFrom bytes.Letter bytes.IdentifierStart

-- What is between two double quotes: single bytes except double quotes and backslashes, and backslashes followed by any byte but an LF. So
-- a quote after a backslash doesn't close it.
pub record IsText (text word rest : List ℕ) : Type 0 where
  pub inside : IsPassed InQuotes word
  pub whole : text ≡ 34 ∷ (word ++ 34 ∷ rest)

-- a name in lower case, with its span
abbrev pub name_at : ℕ → List ℕ → List ℕ → List ℕ → List ℕ × Span
name_at len text word rest = (str_to_ascii_lowercase word, span_of (offset_of len text) word)

-- what is between two quotes, with its span, which excludes the quotes
abbrev pub text_at : ℕ → List ℕ → List ℕ → List ℕ → List ℕ × Span
text_at len text word rest = (word, span_of (offset_of len text + 1) word)

-- The same as functions.

abbrev pub name_of : List ℕ → Option (List ℕ × List ℕ)
name_of = run_from bytes.Letter bytes.IdentifierStart

-- what precedes a quote, and what follows it
abbrev pub closed : List ℕ × List ℕ → Option (List ℕ × List ℕ)
closed (word, left) = option_map (λ rest. (word, rest)) (strip (codes "\"") left)

unfoldable pub text_of : List ℕ → Option (List ℕ × List ℕ)
text_of text = option_and_then (λ opened. closed (passed InQuotes opened)) (strip (codes "\"") text)
