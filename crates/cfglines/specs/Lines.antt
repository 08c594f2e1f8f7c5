-- Lines and columns of a text, which is the list of its bytes in UTF-8. A line ends in an LF, which is part of it. A CR by itself ends no
-- line.
use Rattle.std.specs.Prelude.{◌≡◌, ℕ, suc, ◌+◌, ◌-◌, Bool, ◌&&◌, ◌==◌, nat_lt, if◌then◌else◌, List, [], ◌∷◌, ◌++◌, map, length, take, drop, slice_index, Contains, Option}
use Rattle.std.specs.Iterator.{Yields}
use Rattle.std.specs.List.{concat, count_by, before_first, after_last}
use Rattle.std.specs.Borrow.{Bor}
use Rattle.std.specs.Str.{chars}

-- whether a byte is an LF
abbrev pub is_newline : ℕ → Bool
is_newline byte = byte == 10

-- there is an LF in the text
abbrev pub HasNewline : List ℕ → Type 0
HasNewline text = Contains text 10

-- whether the byte at b is an LF right after a CR
abbrev pub ends_crlf : List ℕ → ℕ → Bool
ends_crlf text b = nat_lt 0 b && (slice_index text b == 10 && slice_index text (b - 1) == 13)

-- the number of b's line, from 1: one more than the LFs among the first b bytes
unfoldable pub line_number : List ℕ → ℕ → ℕ
line_number text b = count_by is_newline (take b text) + 1

-- the part of b's line before b
unfoldable pub line_prefix : List ℕ → ℕ → List ℕ
line_prefix text b = after_last is_newline (take b text)

-- where b's line starts
unfoldable pub line_start : List ℕ → ℕ → ℕ
line_start text b = length (take b text) - length (line_prefix text b)

-- where b's line ends: at the first LF at or after b, or else at the text's end
unfoldable pub line_end : List ℕ → ℕ → ℕ
line_end text b = length (take b text) + length (before_first is_newline (drop b text))

-- how many characters b's line has up to and including the one at b, where the text's end counts as one
abbrev pub character_count : List ℕ → ℕ → ℕ
character_count text b = length (chars (line_prefix text b)) + 1

-- the column of b, from 1: that count, except that an LF right after a CR has the CR's column
unfoldable pub column : List ℕ → ℕ → ℕ
column text b = if ends_crlf text b then character_count text (b - 1) else character_count text b

-- the offsets of a text's LFs, in order
unfoldable pub newlines_of : List ℕ → List ℕ
newlines_of [] = []
newlines_of (byte ∷ text) = (if is_newline byte then 0 ∷ [] else []) ++ map suc (newlines_of text)

-- what a cache holds of a text: how many bytes it has, and the offsets of its LFs
pub record Kept : Type 0 where
  pub bytes : ℕ
  pub newlines : List ℕ

-- the cache represents the text
pub record StandsFor (cache : Kept) (text : List ℕ) : Type 0 where
  pub bytes : cache.bytes ≡ length text
  pub newlines : cache.newlines ≡ newlines_of text

-- the concatenated pieces
abbrev pub joined : List (Bor (List ℕ)) → List ℕ
joined pieces = concat (map (λ piece. piece.now) pieces)

-- pieces are taken up to and including one, and P holds of the text before it and of that piece
abbrev pub StopsAt : {S : Type 0} → (S → Option (Bor (List ℕ)) → S → Type 0) → S → (List ℕ → List ℕ → Type 0) → Type 0
StopsAt {S} gives pieces P = (before : List (Bor (List ℕ))) × (piece : Bor (List ℕ)) × (rest : S) × Yields gives pieces (before ++ piece ∷ []) rest
    × P (joined before) piece.now
