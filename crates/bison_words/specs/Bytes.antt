-- The classes of bytes that blanks and words are made of. ASCII bytes decide each class, so a text may be cut wherever a run of a class
-- begins or ends.
use Rattle.std.specs.Prelude.{ℕ, Bool, true, ◌==◌, ◌||◌, ◌&&◌, not, nat_le, nat_lt}
use Rattle.bison_words.specs.declared.class.Class.{Class}
use Rattle.bison_words.specs.declared.class.Class.TheVariants.{Any, Blank, Space, Gap, Line, Letter, NameByte, Digit, Hexadecimal, Octal, Odd, Mark, Quote, Quoted, Escape, Comment, CommentLine, CodeQuoted, CodeByte, TagByte}

-- a space, a tab, a VT or an FF
abbrev pub is_gap : ℕ → Bool
is_gap b = b == 32 || b == 9 || b == 11 || b == 12

abbrev pub is_digit : ℕ → Bool
is_digit b = nat_le 48 b && nat_le b 57

abbrev pub is_letter : ℕ → Bool
is_letter b = (nat_le 65 b && nat_le b 90) || (nat_le 97 b && nat_le b 122)

abbrev pub is_quote : ℕ → Bool
is_quote b = b == 34 || b == 39

-- not a letter, a digit, `_`, a blank's byte, or one of `[%<>{}"'*;|=/`
abbrev pub is_odd : ℕ → Bool
is_odd b = not (is_letter b || is_digit b || b == 95)
    && not (is_gap b || b == 13 || b == 10 || b == 44 || b == 59 || b == 91 || b == 37 || b == 60 || b == 62 || b == 123 || b == 125
    || is_quote b || b == 42 || b == 124 || b == 61 || b == 47)

-- `abfnrtv"'?\`
abbrev pub is_escape : ℕ → Bool
is_escape b = b == 97 || b == 98 || b == 102 || b == 110 || b == 114 || b == 116 || b == 118 || is_quote b || b == 63 || b == 92

abbrev pub holds : Class → ℕ → Bool
holds Any b = true
holds Blank b = is_gap b || b == 13 || b == 44
holds Space b = is_gap b || b == 13 || b == 10
holds Gap b = is_gap b
holds Line b = not (b == 10)
holds Letter b = is_letter b || b == 95 || b == 46
holds NameByte b = is_letter b || is_digit b || b == 95 || b == 46 || b == 45
holds Digit b = is_digit b
holds Hexadecimal b = is_digit b || (nat_le 97 b && nat_le b 102) || (nat_le 65 b && nat_le b 70)
holds Octal b = nat_le 48 b && nat_le b 55
holds Odd b = is_odd b
holds Mark b = b == 59 || b == 124 || b == 61
holds Quote b = is_quote b
holds Quoted b = not (is_quote b || b == 92 || b == 10 || b == 0)
holds Escape b = is_escape b
holds Comment b = not (b == 42)
holds CommentLine b = not (b == 92 || b == 10)
holds CodeQuoted b = not (is_quote b || b == 92 || b == 10)
holds CodeByte b = not (is_quote b || b == 123 || b == 125 || b == 47 || b == 60 || b == 37)
holds TagByte b = not (b == 60 || b == 62 || b == 45)

-- whether the byte continues a character
abbrev pub is_continuation : ℕ → Bool
is_continuation b = nat_le 128 b && nat_lt b 192

-- an ASCII byte of a class
abbrev pub is_ascii_of : Class → ℕ → Bool
is_ascii_of class b = nat_lt b 128 && holds class b
