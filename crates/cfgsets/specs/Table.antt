-- Tables of bits.
use Rattle.std.specs.Prelude.{◌≡◌, ◌↔◌, ◌⊎◌, ◌<◌, ℕ, Bool, false, true, List, [], length, All, IsTrue, sum_by, count_by, replicate, slice_index_or, slice_set}

pub record Table : Type 0 where
  pub columns : ℕ
  pub rows : List (List Bool)

-- this many rows, with this many columns each
pub record IsTable (rows columns : ℕ) (x : Table) : Type 0 where
  pub width : x.columns ≡ columns
  pub height : length x.rows ≡ rows
  pub all_wide : All (λ row. length row ≡ columns) x.rows

abbrev pub row_of : Table → ℕ → List Bool
row_of x row = slice_index_or x.rows row []

-- whether the bit is on
abbrev pub bit : Table → ℕ → ℕ → Bool
bit x row column = slice_index_or (row_of x row) column false

abbrev pub HasBit : Table → ℕ → ℕ → Type 0
HasBit x row column = IsTrue (bit x row column)

-- how many bits of the list are on
abbrev pub bits_on : List Bool → ℕ
bits_on bits = count_by (λ b. b) bits

abbrev pub count_of : Table → ℕ
count_of x = sum_by bits_on x.rows

-- a table with no bit on
abbrev pub no_bits : ℕ → ℕ → Table
no_bits rows columns = record { columns = columns; rows = replicate rows (replicate columns false) }

-- the table with this bit turned on
abbrev pub with_bit : Table → ℕ → ℕ → Table
with_bit x row column = record { columns = x.columns; rows = slice_set x.rows row (slice_set (row_of x row) column true) }

-- the bits that `gives` has were turned on, and no others; `changed` says whether the table changed
pub record Joins (gives : ℕ → ℕ → Type 0) (old new : Table) (changed : Bool) : Type 0 where
  pub shape : (rows columns : ℕ) → IsTable rows columns old → IsTable rows columns new
  pub bits : (row column : ℕ) → (HasBit new row column ↔ (HasBit old row column ⊎ gives row column))
  pub more : changed ≡ true → count_of old < count_of new
  pub same : changed ≡ false → new ≡ old
