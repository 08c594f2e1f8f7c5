-- Marks on numbers, as a list of bits.
use Rattle.std.specs.Prelude.{ℕ, Bool, List, map}
use Rattle.std.specs.List.{range_with_len}
use Rattle.std.specs.Ordering.{nat_cmp}
use Rattle.std.specs.BTreeSet.{BTreeSet, contains}

-- so many bits, of which those at the numbers are on
abbrev pub bits_at : ℕ → BTreeSet ℕ → List Bool
bits_at bound numbers = map (contains nat_cmp numbers) (range_with_len 0 bound)
