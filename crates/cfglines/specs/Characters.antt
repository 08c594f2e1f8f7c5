-- The characters of a text, by the bytes that begin them.
use Rattle.std.specs.Prelude.{◌≡◌, ℕ, ◌*◌, ◌/◌, ◌<◌, Bool, ◌||◌, nat_lt, nat_le, List, length, take, slice_index}
use Rattle.std.specs.List.{count_by}

-- whether a byte begins a character: the further bytes of a character, in UTF-8, are those from 128 up to 191
abbrev pub begins_character : ℕ → Bool
begins_character byte = nat_lt byte 128 || nat_le 192 byte

-- how many bytes are between two counts
abbrev pub step : ℕ
step = 256

-- count k is the number of characters that begin in the first k steps of a text; there is one for each full step, and one for none
pub record AreCountsOf (text counts : List ℕ) : Type 0 where
  pub reach : length text / step < length counts
  pub each : (k : ℕ) → k < length counts → slice_index counts k ≡ count_by begins_character (take (k * step) text)
