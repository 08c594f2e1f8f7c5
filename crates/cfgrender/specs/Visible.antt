-- A text as it is shown: its control characters, other than tabs, and its format characters are replaced by their escapes.
use Rattle.std.specs.Prelude.{ℕ, Bool, not, ◌&&◌, ◌||◌, ◌==◌, nat_le, if◌then◌else◌, List, [], ◌∷◌}
use Rattle.std.specs.Char.{is_control}
use Rattle.std.specs.Char.Escape.{escape_unicode}
use Rattle.std.specs.List.{flat_map, list_any}
use Rattle.std.specs.Str.{chars, encode_utf8_all}

-- the format characters of Unicode 15.0, its general category Cf, in ranges: the codes of the first and the last of each
abbrev pub format_ranges : List (ℕ × ℕ)
format_ranges =
    (0xAD, 0xAD) ∷ (0x600, 0x605) ∷ (0x61C, 0x61C) ∷ (0x6DD, 0x6DD) ∷ (0x70F, 0x70F) ∷ (0x890, 0x891) ∷
    (0x8E2, 0x8E2) ∷ (0x180E, 0x180E) ∷ (0x200B, 0x200F) ∷ (0x202A, 0x202E) ∷ (0x2060, 0x2064) ∷
    (0x2066, 0x206F) ∷ (0xFEFF, 0xFEFF) ∷ (0xFFF9, 0xFFFB) ∷ (0x110BD, 0x110BD) ∷ (0x110CD, 0x110CD) ∷
    (0x13430, 0x1343F) ∷ (0x1BCA0, 0x1BCA3) ∷ (0x1D173, 0x1D17A) ∷ (0xE0001, 0xE0001) ∷ (0xE0020, 0xE007F) ∷ []

-- whether a character is in one of these ranges
abbrev pub is_in_ranges : List (ℕ × ℕ) → ℕ → Bool
is_in_ranges ranges c = list_any (λ range. nat_le range.0 c && nat_le c range.1) ranges

-- whether a character is a format character: it isn't seen, but may change how others are seen, as U+202E does, after which text runs from
-- right to left
abbrev pub is_format : ℕ → Bool
is_format c = is_in_ranges format_ranges c

-- whether a character is shown as its escape: a control character other than a tab, or a format character
abbrev pub is_escaped : ℕ → Bool
is_escaped c = (is_control c && not (c == 9)) || is_format c

-- the characters that show a character: those of its escape, as `\u{1b}`, or it alone
unfoldable pub shown_as : ℕ → List ℕ
shown_as c = if is_escaped c then escape_unicode c else c ∷ []

-- the text as it is shown
unfoldable pub visible : List ℕ → List ℕ
visible text = encode_utf8_all (flat_map shown_as (chars text))
