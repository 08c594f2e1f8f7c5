-- Words of a grammar file: names, identifiers, quoted tokens, tokens, integers and the rests of lines. `P text word rest` says that the
-- text is the word followed by the rest.
use Rattle.std.specs.Prelude.{◌≡◌, ℕ, Bool, true, false, List, [], ◌∷◌, ◌++◌, ◌+◌, ◌^◌, ◌==◌, ◌&&◌, not, ◌<◌, nat_lt, Option, Some, None, Result, Ok, Err, MatchBool, if◌then◌else◌}
use Rattle.std.specs.List.{list_all}
use Rattle.std.specs.Option.{option_and_then}
use Rattle.std.specs.Str.Parse.{digits_value}
use Rattle.cfgbase.specs.declared.span.Span.{Span}
use Rattle.constructs.specs.Pieces.{starts, IsRun, run}
use Rattle.cfgwords.specs.declared.fault.Fault.{Fault}
use Rattle.cfgwords.specs.declared.bytes.ByteClass.{ByteClass}
use Rattle.cfgwords.specs.declared.bytes.ByteClass.TheVariants as bytes
use Rattle.cfgwords.specs.Bytes.{holds}
use Rattle.cfgwords.specs.Text.{offset_of, span_of}

-- a longest run of one class that begins with a byte of another
pub record IsRunFrom (first others : ByteClass) (text word rest : List ℕ) : Type 0 where
  pub begins : starts (holds first) text ≡ true
  pub run : IsRun (holds others) text word rest

-- a name: longest `[a-zA-Z_.][a-zA-Z0-9_.]*`
abbrev pub IsName : List ℕ → List ℕ → List ℕ → Type 0
IsName = IsRunFrom bytes.NameStart bytes.NameByte

-- an identifier: longest `[a-zA-Z_][a-zA-Z_0-9]*`
abbrev pub IsIdentifier : List ℕ → List ℕ → List ℕ → Type 0
IsIdentifier = IsRunFrom bytes.IdentifierStart bytes.IdentifierByte

-- what may be inside the quotes: anything but the same quote and an LF
abbrev pub is_inside : ℕ → ℕ → Bool
is_inside quote b = not (b == quote) && not (b == 10)

-- A quote, at least one character, and the next quote of the same kind, within one line. The first character may be that quote. The word is
-- what is between the quotes.
pub record IsQuoted (text word rest : List ℕ) : Type 0 where
  pub quote : ℕ
  pub first : ℕ
  pub others : List ℕ
  pub is_quote : holds bytes.Quote quote ≡ true
  pub line : first == 10 ≡ false
  pub inside : list_all (is_inside quote) others ≡ true
  pub word_is : word ≡ first ∷ others
  pub whole : text ≡ quote ∷ first ∷ (others ++ quote ∷ rest)

-- a token's text, and whether it is in quotes
pub record TokenText : Type 0 where
  pub name : List ℕ
  pub quoted : Bool

-- a token: a quoted token, or an identifier
abbrev pub IsToken : List ℕ → TokenText → List ℕ → Type 0
IsToken text token rest = MatchBool token.quoted (IsQuoted text token.name rest) (IsIdentifier text token.name rest)

-- an integer: the longest run of digits, at least one, if its decimal value fits in a usize
pub record IsInteger (text : List ℕ) (number : ℕ) (rest : List ℕ) : Type 0 where
  pub digits : List ℕ
  pub run : IsRunFrom bytes.Digit bytes.Digit text digits rest
  pub writes : digits_value 10 digits ≡ number
  pub fits : number < 2 ^ 64

-- the rest of a line: what precedes the next CR or LF, or the end. It may be empty, so there always is one.
abbrev pub LineRest : List ℕ → Result (List ℕ × List ℕ) Fault → Type 0
LineRest text (Ok (word, rest)) = IsRun (holds bytes.Line) text word rest
LineRest text (Err fault) = ⊥

-- a name with its span
pub record Word : Type 0 where
  pub name : List ℕ
  pub span : Span

-- a token with the span of its name (without the quotes), and the offset where it ends (after a closing quote)
pub record Token : Type 0 where
  pub name : List ℕ
  pub span : Span
  pub quoted : Bool
  pub end : ℕ

abbrev pub word_at : ℕ → List ℕ → List ℕ → List ℕ → Word
word_at len text name rest = record { name = name; span = span_of (offset_of len text) name }

abbrev pub token_at : ℕ → List ℕ → TokenText → List ℕ → Token
token_at len text token rest = record {
  name = token.name;
  span = span_of (if token.quoted then offset_of len text + 1 else offset_of len text) token.name;
  quoted = token.quoted;
  end = offset_of len rest;
}

-- an integer with the span of its digits
abbrev pub integer_at : ℕ → List ℕ → ℕ → List ℕ → ℕ × Span
integer_at len text number rest = (number, record { start = offset_of len text; end = offset_of len rest })

-- a token's name and span
abbrev pub word_of : Token → Word
word_of token = record { name = token.name; span = token.span }

-- The same as functions.

unfoldable pub run_from : ByteClass → ByteClass → List ℕ → Option (List ℕ × List ℕ)
run_from first others text = if starts (holds first) text then Some (run (holds others) text) else None

abbrev pub name_of : List ℕ → Option (List ℕ × List ℕ)
name_of = run_from bytes.NameStart bytes.NameByte

abbrev pub identifier_of : List ℕ → Option (List ℕ × List ℕ)
identifier_of = run_from bytes.IdentifierStart bytes.IdentifierByte

abbrev pub closed : ℕ → ℕ → List ℕ × List ℕ → Option (List ℕ × List ℕ)
closed quote first (others, []) = None
closed quote first (others, b ∷ rest) = if b == quote then Some (first ∷ others, rest) else None

abbrev pub opened : ℕ → ℕ → List ℕ → Option (List ℕ × List ℕ)
opened quote first text =
    if holds bytes.Quote quote && not (first == 10) then closed quote first (run (is_inside quote) text) else None

unfoldable pub quoted_of : List ℕ → Option (List ℕ × List ℕ)
quoted_of [] = None
quoted_of (quote ∷ []) = None
quoted_of (quote ∷ first ∷ text) = opened quote first text

abbrev pub token_text : Bool → Option (List ℕ × List ℕ) → Option (TokenText × List ℕ)
token_text quoted None = None
token_text quoted (Some (name, rest)) = Some (record { name = name; quoted = quoted }, rest)

unfoldable pub token_of : List ℕ → Option (TokenText × List ℕ)
token_of text = if starts (holds bytes.Quote) text then token_text true (quoted_of text) else token_text false (identifier_of text)

-- the number that the digits write, and the rest, if it fits in a usize
abbrev pub number_of : List ℕ × List ℕ → Option (ℕ × List ℕ)
number_of (digits, rest) = if nat_lt (digits_value 10 digits) (2 ^ 64) then Some (digits_value 10 digits, rest) else None

unfoldable pub integer_of : List ℕ → Option (ℕ × List ℕ)
integer_of text = option_and_then number_of (run_from bytes.Digit bytes.Digit text)

abbrev pub line_rest : List ℕ → Result (List ℕ × List ℕ) Fault
line_rest text = Ok (run (holds bytes.Line) text)
