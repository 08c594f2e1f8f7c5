-- Suffixes of a text.
use Rattle.std.specs.Prelude.{◌≡◌, ℕ, ◌≤◌, ◌-◌, List, length, drop}

pub record IsSuffix (text rest : List ℕ) : Type 0 where
  pub shorter : length rest ≤ length text
  pub is : drop (length text - length rest) text ≡ rest
