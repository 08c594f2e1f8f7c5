-- Productions that the sentences of their rules use.
use Rattle.std.specs.Prelude.{ℕ, List, [], ◌∷◌, ◌++◌, map}
use Rattle.derivation.specs.Grammar.{Sym, Rule, Token}
use Rattle.derivation.specs.Derivation.{Derives}

-- a derivation of the sentence from the rule somewhere replaces the rule by the symbols of this production
pub record Uses (P : ℕ → List Sym → Type 0) (r : ℕ) (symbols : List Sym) (w : List ℕ) : Type 0 where
  pub before : List Sym
  pub after : List Sym
  pub leads : Derives P (Rule r ∷ []) (before ++ (Rule r ∷ after))
  pub has : P r symbols
  pub gives : Derives P (before ++ (symbols ++ after)) (map Token w)

-- some sentence of the rule uses the production
abbrev pub IsUsable : (ℕ → List Sym → Type 0) → ℕ → List Sym → Type 0
IsUsable P r symbols = (w : List ℕ) × Uses P r symbols w
