-- Kinds of words: which words are of a kind, and the plain program that finds one at the start of a text.
use Rattle.std.specs.Prelude.{◌≡◌, ℕ, ◌<◌, List, length, Option, Some}

-- find finds the words that Is allows, and nothing else
pub record IsFinder {W : Type 0} (Is : List ℕ → W → List ℕ → Type 0) (find : List ℕ → Option (W × List ℕ)) : Type 0 where
  pub sound : (text : List ℕ) (word : W) (rest : List ℕ) → find text ≡ Some (word, rest) → Is text word rest
  pub only : (text : List ℕ) (word : W) (rest : List ℕ) → Is text word rest → find text ≡ Some (word, rest)

-- the words that it finds leave a shorter rest
pub record IsShorter {W : Type 0} (find : List ℕ → Option (W × List ℕ)) : Type 0 where
  pub less : (text : List ℕ) (word : W) (rest : List ℕ) → find text ≡ Some (word, rest) → length rest < length text

-- A kind of words that are read as values of W. `Is text word rest` says that the text is the word followed by rest.
pub record WordKind (W : Type 0) : Type 1 where
  pub Is : List ℕ → W → List ℕ → Type 0
  pub find : List ℕ → Option (W × List ℕ)
  pub finds : IsFinder Is find
  pub shortens : IsShorter find
