-- Parse trees.
use Rattle.std.specs.Prelude.{◌≡◌, ℕ, List, [], ◌∷◌, ◌++◌}
use Rattle.derivation.specs.Grammar.{Sym, Rule, Token}

-- A sequence of parse trees: their roots are the symbols, and their leaves, read from left to right, are the tokens.
pub data Yields (P : ℕ → List Sym → Type 0) : List Sym → List ℕ → Type 0 where
  empty : Yields P [] []
  token : {t : ℕ} {a : List Sym} {w : List ℕ} → Yields P a w → Yields P (Token t ∷ a) (t ∷ w)
  opened : {r : ℕ} {symbols a : List Sym} {u w v : List ℕ} → P r symbols → Yields P symbols u → Yields P a w → v ≡ u ++ w → Yields P (Rule r ∷ a) v
