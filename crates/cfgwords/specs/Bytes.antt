-- The classes of bytes that blanks and words are made of. ASCII bytes decide each class, so a text may be cut wherever a run of a class
-- begins or ends.
use Rattle.std.specs.Prelude.{ℕ, Bool, ◌==◌, ◌||◌, ◌&&◌, not, nat_le}
use Rattle.cfgwords.specs.declared.bytes.ByteClass.{ByteClass}
use Rattle.cfgwords.specs.declared.bytes.ByteClass.TheVariants.{Blank, LineEnd, Line, Quote, Letter, NameStart, NameByte, IdentifierStart, IdentifierByte, Digit}

abbrev pub is_line_end : ℕ → Bool
is_line_end b = b == 10 || b == 13

abbrev pub is_blank : ℕ → Bool
is_blank b = b == 32 || b == 9 || is_line_end b

abbrev pub is_letter : ℕ → Bool
is_letter b = (nat_le 65 b && nat_le b 90) || (nat_le 97 b && nat_le b 122)

abbrev pub is_digit : ℕ → Bool
is_digit b = nat_le 48 b && nat_le b 57

abbrev pub is_identifier_start : ℕ → Bool
is_identifier_start b = is_letter b || b == 95

abbrev pub is_name_start : ℕ → Bool
is_name_start b = is_identifier_start b || b == 46

-- a space, a tab, a CR or an LF; an LF or a CR; any other byte; `"` or `'`; a letter; the first and the further bytes of a name and of an
-- identifier; a decimal digit
abbrev pub holds : ByteClass → ℕ → Bool
holds Blank b = is_blank b
holds LineEnd b = is_line_end b
holds Line b = not (is_line_end b)
holds Quote b = b == 34 || b == 39
holds Letter b = is_letter b
holds NameStart b = is_name_start b
holds NameByte b = is_name_start b || is_digit b
holds IdentifierStart b = is_identifier_start b
holds IdentifierByte b = is_identifier_start b || is_digit b
holds Digit b = is_digit b
