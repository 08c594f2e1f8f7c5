-- Lists of tokens, split into one part for each symbol of a list.
use Rattle.std.specs.Prelude.{◌≡◌, ℕ, List, [], ◌∷◌, ◌++◌}
use Rattle.derivation.specs.Grammar.{Sym, Rule, Token}

-- a token's part is the token itself, and a rule's part satisfies F
pub data Split (F : ℕ → List ℕ → Type 0) : List Sym → List ℕ → Type 0 where
  done : Split F [] []
  itself : {t : ℕ} {a : List Sym} {w : List ℕ} → Split F a w → Split F (Token t ∷ a) (t ∷ w)
  part : {r : ℕ} {a : List Sym} {u w v : List ℕ} → F r u → Split F a w → v ≡ u ++ w → Split F (Rule r ∷ a) v
