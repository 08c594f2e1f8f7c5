-- A table of bits in one list of 64-bit words; each row has the same number of words.
use Rattle.std.specs.Prelude.{◌≡◌, ◌≢◌, ◌⊎◌, ℕ, ◌+◌, ◌*◌, ◌<◌, ◌≤◌, Bool, List, map, length, slice_index_or, MatchBool}
use Rattle.std.specs.List.{between, range_with_len}
use Rattle.cfgindex.specs.BitWords.{AreWords, AreJoined, bits_of}
use Rattle.cfgsets.specs.Table.{Table}

-- the words of a row
abbrev pub words_of : ℕ → List ℕ → ℕ → List ℕ
words_of row_words words row = between (row * row_words) (row * row_words + row_words) words

-- each row's bits are those of its words
abbrev pub table_of : ℕ → ℕ → ℕ → List ℕ → Table
table_of rows columns row_words words =
    record { columns = columns; rows = map (λ row. bits_of (words_of row_words words row) columns) (range_with_len 0 rows) }

-- this many rows, each with words for this many bits; spare bits are off
pub record AreRows (rows columns row_words : ℕ) (words : List ℕ) : Type 0 where
  pub long : length words ≡ rows * row_words
  pub each : (row : ℕ) → row < rows → AreWords columns (words_of row_words words row)

-- `many` words, from index `to` on, were united bit by bit with `others`; the rest stayed
pub record JoinsWords (to many : ℕ) (others old new : List ℕ) (changed : Bool) : Type 0 where
  pub long : length new ≡ length old
  pub joined : AreJoined (between to (to + many) old) others (between to (to + many) new)
  pub rest : (k : ℕ) → (k < to) ⊎ (to + many ≤ k) → slice_index_or new k 0 ≡ slice_index_or old k 0
  pub grew : MatchBool changed (between to (to + many) new ≢ between to (to + many) old)
      (between to (to + many) new ≡ between to (to + many) old)
