-- Actions: what is between a brace and the one that balances it. Braces in strings and comments count too.
use Rattle.std.specs.Prelude.{◌≡◌, ℕ, zero, suc, Bool, false, List, [], ◌∷◌, ◌++◌, ◌+◌, ◌==◌, ◌||◌, Option, Some, None, if◌then◌else◌, codes}
use Rattle.std.specs.Option.{option_and_then}
use Rattle.std.specs.Str.{trim}
use Rattle.cfgbase.specs.declared.span.Span.{Span}
use Rattle.constructs.specs.Pieces.{strip, with_first}
use Rattle.cfgwords.specs.Text.{offset_of, span_of}

abbrev pub is_brace : ℕ → Bool
is_brace b = b == 123 || b == 125

-- a text with balanced braces: each opening brace is closed later, and there is no other closing one
pub data Balanced : List ℕ → Type 0 where
  empty : Balanced []
  other : (b : ℕ) (rest : List ℕ) → is_brace b ≡ false → Balanced rest → Balanced (b ∷ rest)
  braces : (inside rest : List ℕ) → Balanced inside → Balanced rest → Balanced (123 ∷ (inside ++ 125 ∷ rest))

-- an action: its word is what is between the braces, trimmed
pub record IsAction (text word rest : List ℕ) : Type 0 where
  pub inside : List ℕ
  pub balanced : Balanced inside
  pub whole : text ≡ 123 ∷ (inside ++ 125 ∷ rest)
  pub trimmed : trim inside ≡ word

-- an action with its span, which begins right after the opening brace and is as long as the trimmed text
abbrev pub action_at : ℕ → List ℕ → List ℕ → List ℕ → List ℕ × Span
action_at len text word rest = (word, span_of (offset_of len text + 1) word)

-- The same as functions.

-- what precedes the brace that closes one more than depth open ones, and the rest after it
unfoldable pub split_balanced : ℕ → List ℕ → Option (List ℕ × List ℕ)
split_balanced depth [] = None
split_balanced zero (b ∷ text) =
    if b == 123 then with_first b (split_balanced 1 text) else if b == 125 then Some ([], text) else with_first b (split_balanced zero text)
split_balanced (suc depth) (b ∷ text) =
    if b == 123 then with_first b (split_balanced (suc (suc depth)) text)
    else if b == 125 then with_first b (split_balanced depth text)
    else with_first b (split_balanced (suc depth) text)

abbrev pub trimmed_inside : Option (List ℕ × List ℕ) → Option (List ℕ × List ℕ)
trimmed_inside None = None
trimmed_inside (Some (inside, rest)) = Some (trim inside, rest)

unfoldable pub action_of : List ℕ → Option (List ℕ × List ℕ)
action_of text = option_and_then (λ opened. trimmed_inside (split_balanced 0 opened)) (strip (codes "{") text)
