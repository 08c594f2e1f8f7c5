-- The value of digits.
use Rattle.std.specs.Prelude.{ℕ, List, ◌+◌, ◌*◌, ◌-◌, nat_lt, min, fold, if◌then◌else◌}

-- the value of a digit, and that of digits; the greatest `usize` if it doesn't fit
abbrev pub digit_value : ℕ → ℕ
digit_value b = if nat_lt b 58 then b - 48 else if nat_lt b 97 then b - 55 else b - 87

abbrev pub with_digit : ℕ → ℕ → ℕ → ℕ
with_digit base number b = min (number * base + digit_value b) 18446744073709551615

unfoldable pub number_of : ℕ → List ℕ → ℕ
number_of base digits = fold (with_digit base) 0 digits
