-- References of actions to symbols that don't come before them: `$6` where there are three.
use Rattle.std.specs.Prelude.{◌≡◌, ℕ, Bool, true, false, ◌==◌, ◌||◌, ◌&&◌, ◌+◌, ◌-◌, ◌*◌, ◌<◌, List, [], ◌∷◌, ◌++◌, codes, drop, get_or, length, min, nat_le, nat_lt, not, slice_get, take, Option, None, Some, option_map, if◌then◌else◌}
use Rattle.std.specs.List.{fold, position_or_len, prefix_len}
use Rattle.std.specs.Fmt.{digits}
use Rattle.std.specs.Option.{option_map_or}
use Rattle.std.specs.Str.{bytes_eq}
use Rattle.cfgrammar.specs.Span.{Span}
use Rattle.cfgrammar.specs.Syntax.{Production, RuleSymbol, Symbol, Syntax, TokenSymbol}
use Rattle.finding_kinds.specs.declared.finding_kind.FindingKind.TheVariants.{UnknownReference}
use Rattle.text_findings.specs.Empty.{is_action_name, rule_name_at}
use Rattle.text_findings.specs.Finding.{ShownFinding}
use Rattle.text_findings.specs.Glued.{is_quote}
use Rattle.text_findings.specs.declared.references.Place.{Place}
use Rattle.text_findings.specs.declared.references.Place.TheVariants.{Code, Slash, Line, Comment, Star, Quotes, Escape}
use Rattle.text_findings.specs.declared.references.Reference.{Reference}
use Rattle.text_findings.specs.declared.references.Run.{Run}
use Rattle.text_findings.specs.declared.references.Run.TheVariants.{Blanks, Digits, Tag}

-- where code goes on after a byte
abbrev pub after : Place → ℕ → Place
after Code byte = if byte == 47 then Slash else if is_quote byte then Quotes byte else Code
after Slash byte = if byte == 47 then Line else if byte == 42 then Comment else if is_quote byte then Quotes byte else Code
after Line byte = if byte == 10 then Code else Line
after Comment byte = if byte == 42 then Star else Comment
after Star byte = if byte == 47 then Code else if byte == 42 then Star else Comment
after (Quotes quote) byte = if byte == quote then Code else if byte == 92 then Escape quote else Quotes quote
after (Escape quote) byte = Quotes quote

-- where the byte at this offset is
abbrev pub place_at : List ℕ → ℕ → Place
place_at code offset = fold after Code (take offset code)

-- whether that is outside of comments and quotes
abbrev pub is_code : Place → Bool
is_code Code = true
is_code Slash = true
is_code _ = false

-- whether a byte begins a reference to a value, `$`, or to a location, `@`
abbrev pub is_sign : ℕ → Bool
is_sign byte = byte == 36 || byte == 64

-- whether a byte is a digit, or a space or one of the bytes from a tab to a CR, or in a tag that a `>` ends
abbrev pub holds : Run → ℕ → Bool
holds Digits byte = nat_le 48 byte && nat_le byte 57
holds Blanks byte = byte == 32 || (nat_le 9 byte && nat_le byte 13)
holds Tag byte = not (byte == 62)

-- a number with one more digit; the greatest number if it doesn't fit
abbrev pub with_digit : ℕ → ℕ → ℕ
with_digit number byte = min (number * 10 + (byte - 48)) 18446744073709551615

-- the number that code begins with, if it begins with one
abbrev pub number_of : List ℕ → Option ℕ
number_of code = let count = prefix_len (holds Digits) code in if count == 0 then None else Some (fold with_digit 0 (take count code))

-- the code after a tag, if it begins with one
abbrev pub without_tag : List ℕ → List ℕ
without_tag [] = []
without_tag (byte ∷ code) = if byte == 60 then drop (prefix_len (holds Tag) code + 1) code else byte ∷ code

-- the number of the reference at this offset, if there is one
abbrev pub reference_at : List ℕ → ℕ → Option ℕ
reference_at code offset =
    if is_code (place_at code offset) && is_sign (get_or code offset 0) then number_of (without_tag (drop (offset + 1) code)) else None

-- a reference beyond the limit-th symbol is at this offset
pub record IsBeyond (code : List ℕ) (limit offset : ℕ) : Type 0 where
  pub within : offset < length code
  pub number : ℕ
  pub is : reference_at code offset ≡ Some number
  pub beyond : limit < number

-- this is the first of those
abbrev pub IsFirstBeyond : List ℕ → ℕ → Option Reference → Type 0
IsFirstBeyond code limit None = (offset : ℕ) → IsBeyond code limit offset → ⊥
IsFirstBeyond code limit (Some reference) = (reference.offset < length code) × (reference_at code reference.offset ≡ Some reference.number)
    × (limit < reference.number) × (reference.is_location ≡ (get_or code reference.offset 0 == 64))
    × ((offset : ℕ) → offset < reference.offset → IsBeyond code limit offset → ⊥)

-- whether a symbol is the rule with this name
abbrev pub is_rule_named : List ℕ → Symbol → Bool
is_rule_named name (RuleSymbol word) = bytes_eq word.name name
is_rule_named name (TokenSymbol word) = false

-- where the rule with this name is among symbols, or their number
abbrev pub place_of : List ℕ → List Symbol → ℕ
place_of name symbols = position_or_len (is_rule_named name) symbols

-- how many symbols precede the rule with this name in the first of the productions that has it
unfoldable pub count_before : List ℕ → List Production → ℕ
count_before name [] = 0
count_before name (production ∷ rest) = let place = place_of name production.symbols in
    if nat_lt place (length production.symbols) then place else count_before name rest

-- How many symbols precede the action of the n-th production. An action inside of a production has a rule and an empty production of its
-- own, which the production follows.
abbrev pub symbols_before : Syntax → ℕ → Production → ℕ
symbols_before s n production = option_map_or
    (λ name. if is_action_name name then count_before name (drop n s.productions) else length production.symbols)
    (rule_name_at s n) (length production.symbols)

-- where code with this span begins in the text: its span begins right after the brace, and the code after white space
abbrev pub after_blanks : List ℕ → ℕ → ℕ
after_blanks text offset = min (length text) offset + prefix_len (holds Blanks) (drop (min (length text) offset) text)

-- with what a reference begins
abbrev pub sign_of : Reference → List ℕ
sign_of reference = if reference.is_location then codes "@" else codes "$"

-- what refers to the last of so many symbols
abbrev pub last_text : List ℕ → ℕ → List ℕ
last_text sign limit = if limit == 0 then codes "no symbol is before it"
    else codes "the last symbol before it is '" ++ (sign ++ (digits 10 false limit ++ codes "'"))

-- that the reference, which begins at this offset of the text, is beyond the limit-th symbol
abbrev pub unknown_reference : ℕ → ℕ → Reference → ShownFinding
unknown_reference start limit reference = record {
  kind = UnknownReference;
  spans = record { start = start; end = start + 1 } ∷ [];
  text = codes "Unknown reference '" ++ (sign_of reference ++ (digits 10 false reference.number
      ++ (codes "': " ++ last_text (sign_of reference) limit)));
  hint = None;
}

-- the finding about an action: its first reference that is beyond the limit-th symbol
abbrev pub ReportsIn : List ℕ → ℕ → Option (List ℕ × Span) → Option ShownFinding → Type 0
ReportsIn text limit None found = found ≡ None
ReportsIn text limit (Some (code, span)) found = (first : Option Reference) × IsFirstBeyond code limit first
    × (found ≡ option_map (λ reference. unknown_reference (after_blanks text span.start + reference.offset) limit reference) first)

abbrev pub ReportsAt : List ℕ → Syntax → ℕ → Option Production → Option ShownFinding → Type 0
ReportsAt text s n None found = found ≡ None
ReportsAt text s n (Some production) found = ReportsIn text (symbols_before s n production) production.action found

-- the n-th production's action refers to a symbol that isn't before it
abbrev pub ReportsUnknownReference : List ℕ → Syntax → ℕ → Option ShownFinding → Type 0
ReportsUnknownReference text s n found = ReportsAt text s n (slice_get s.productions n) found
