-- A work list of numbers: a bit for each says whether it waits, and a stack has those that do.
use Rattle.std.specs.Prelude.{◌≡◌, ℕ, ◌==◌, Bool, false, cond, List, length, IsTrue, count_by, slice_index_or, slice_set}
use Rattle.cfgsets.specs.Table.{bits_on}

abbrev pub waits : List Bool → ℕ → Bool
waits x n = slice_index_or x n false

abbrev pub Waits : List Bool → ℕ → Type 0
Waits x n = IsTrue (waits x n)

abbrev pub NoneWaits : List Bool → Type 0
NoneWaits x = (n : ℕ) → waits x n ≡ false

-- n waited and no longer does; the others are as before
pub record WaitsNoMore (n : ℕ) (old new : List Bool) : Type 0 where
  pub waited : Waits old n
  pub rest : new ≡ slice_set old n false

-- the stack contains each waiting number once, and no other number
pub record IsStack (x : List Bool) (stack : List ℕ) : Type 0 where
  pub once : (n : ℕ) → count_by (λ m. m == n) stack ≡ cond (waits x n) 1 0
  pub together : length stack ≡ bits_on x
