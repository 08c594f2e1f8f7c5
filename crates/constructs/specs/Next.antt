-- The next element of a text, if the text passes a test there. Where words are read one by one, a text is their numbers.
use Rattle.std.specs.Prelude.{◌≡◌, ℕ, Bool, true, List, [], ◌∷◌, Option, Some, None, if◌then◌else◌}

pub record IsNext (test : List ℕ → Bool) (text : List ℕ) (element : ℕ) (rest : List ℕ) : Type 0 where
  pub whole : text ≡ element ∷ rest
  pub passes : test text ≡ true

-- the same as a function
abbrev pub next : (List ℕ → Bool) → List ℕ → Option (ℕ × List ℕ)
next test [] = None
next test (n ∷ text) = if test (n ∷ text) then Some (n, text) else None
