-- Where the code finds the end of a quoted token's name, and of what is between an action's braces.
use Rattle.std.specs.Prelude.{◌≡◌, ℕ, suc, List, length, ◌+◌, ◌≤◌, ◌<◌, take, drop, Some, slice_index}
use Rattle.cfgwords.specs.Actions.{split_balanced}
use Rattle.cfgwords.specs.FileWords.{quoted_of}

-- the name of the quoted token at the start has n bytes and is in ASCII quotes
pub record IsQuotedLen (text : List ℕ) (n : ℕ) : Type 0 where
  pub is : quoted_of text ≡ Some (take n (drop 1 text), drop 1 (drop n (drop 1 text)))
  pub opens : slice_index text 0 < 128
  pub closes : slice_index text (1 + n) < 128
  pub within : 2 + n ≤ length text

-- n bytes precede the closing brace
pub record IsClosedAt (text : List ℕ) (n : ℕ) : Type 0 where
  pub splits : split_balanced 0 text ≡ Some (take n text, drop (suc n) text)
  pub within : n < length text
  pub closes : slice_index text n ≡ 125
