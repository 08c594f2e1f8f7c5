-- Pieces of a text: what it begins with, and the rest after that.
--
-- An offset is never a number here: it is the rest of the text from there on. A relation `P text piece rest` says that text begins with a
-- piece of its kind, and that rest follows. Next to each is the plain function that finds the piece.
use Rattle.std.specs.Prelude.{◌≡◌, ℕ, ◌≤◌, Bool, true, false, List, [], ◌∷◌, ◌++◌, length, take, drop, Option, Some, None, ◌==◌, if◌then◌else◌}
use Rattle.std.specs.List.{prefix_len, list_all}

-- whether the first byte passes the test; an empty text has none
abbrev pub starts : (ℕ → Bool) → List ℕ → Bool
starts test [] = false
starts test (b ∷ text) = test b

-- the longest prefix of bytes that pass the test
pub record IsRun (test : ℕ → Bool) (text piece rest : List ℕ) : Type 0 where
  pub whole : text ≡ piece ++ rest
  pub passes : list_all test piece ≡ true
  pub longest : starts test rest ≡ false

abbrev pub run : (ℕ → Bool) → List ℕ → List ℕ × List ℕ
run test text = (take (prefix_len test text) text, drop (prefix_len test text) text)

-- the rest after a word at the start
abbrev pub strip : List ℕ → List ℕ → Option (List ℕ)
strip [] text = Some text
strip (c ∷ word) [] = None
strip (c ∷ word) (b ∷ text) = if c == b then strip word text else None

-- what precedes the first needle, and the rest after that needle
pub record IsFirst (needle text body rest : List ℕ) : Type 0 where
  pub whole : text ≡ body ++ needle ++ rest
  pub first : (x y : List ℕ) → text ≡ x ++ needle ++ y → length body ≤ length x

abbrev pub with_first : ℕ → Option (List ℕ × List ℕ) → Option (List ℕ × List ℕ)
with_first b None = None
with_first b (Some (body, rest)) = Some (b ∷ body, rest)

abbrev pub found_here : Option (List ℕ) → Option (List ℕ × List ℕ) → Option (List ℕ × List ℕ)
found_here (Some rest) further = Some ([], rest)
found_here None further = further

unfoldable pub split_first : List ℕ → List ℕ → Option (List ℕ × List ℕ)
split_first needle [] = found_here (strip needle []) None
split_first needle (b ∷ text) = found_here (strip needle (b ∷ text)) (with_first b (split_first needle text))
