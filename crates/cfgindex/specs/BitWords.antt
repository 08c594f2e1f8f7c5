-- Lists of bits in words of 64.
use Rattle.std.specs.Prelude.{◌≡◌, ℕ, ◌+◌, ◌*◌, ◌/◌, ◌%◌, ◌^◌, ◌<◌, ◌≤◌, ◌==◌, Bool, List, map, length, All, bit_or, slice_index_or}
use Rattle.std.specs.Int.{bit_at}
use Rattle.std.specs.List.{range_with_len}

-- whether the bit at an index is on: each word has 64 bits, the lowest first
abbrev pub word_bit : List ℕ → ℕ → Bool
word_bit words i = bit_at (slice_index_or words (i / 64) 0) (i % 64) == 1

abbrev pub bits_of : List ℕ → ℕ → List Bool
bits_of words len = map (word_bit words) (range_with_len 0 len)

-- words for so many bits, and no more; spare bits of the last one are off
pub record AreWords (len : ℕ) (words : List ℕ) : Type 0 where
  pub enough : len ≤ length words * 64
  pub few : length words * 64 < len + 64
  pub fit : All (λ w. w < 2 ^ 64) words
  pub spare : (k i : ℕ) → i < 64 → len ≤ k * 64 + i → bit_at (slice_index_or words k 0) i ≡ 0

-- each word has the bits of the words at its index in a and in b
pub record AreJoined (a b words : List ℕ) : Type 0 where
  pub long : length words ≡ length a
  pub each : (k : ℕ) → k < length a → slice_index_or words k 0 ≡ bit_or (slice_index_or a k 0) (slice_index_or b k 0)
