-- The bits of a list that are on.
use Rattle.std.specs.Prelude.{◌≡◌, ℕ, ◌+◌, ◌<◌, Bool, List, [], ◌∷◌, Option, Some, None, drop, length}
use Rattle.lemmas.specs.Lists.{positions_from}

-- the positions, from a given one, of those that are on
abbrev pub set_bits_from : List Bool → ℕ → List ℕ
set_bits_from bits from = positions_from from (λ b. b) (drop from bits)

-- the first of these, if there is one
abbrev pub IsNextSetBit : List Bool → ℕ → Option ℕ → Type 0
IsNextSetBit bits from None = set_bits_from bits from ≡ []
IsNextSetBit bits from (Some i) = (i < length bits) × (set_bits_from bits from ≡ i ∷ set_bits_from bits (i + 1))
