-- Where a production is used, as sets say, symbol by symbol: E says which rules are nullable, F what they begin with, W what follows them.
use Rattle.std.specs.Prelude.{◌≡◌, ◌⊎◌, ℕ, List, [], ◌∷◌}
use Rattle.cfgrammar.specs.Grammar.{Sym, Rule, Token}

-- after nullable rules comes the token, or a rule that begins with it; or all are nullable, and the token follows the production's rule r
abbrev pub IsUsedBySets : (ℕ → Type 0) → (ℕ → ℕ → Type 0) → (ℕ → ℕ → Type 0) → ℕ → List Sym → ℕ → Type 0
IsUsedBySets E F W r [] t = W r t
IsUsedBySets E F W r (Token u ∷ a) t = u ≡ t
IsUsedBySets E F W r (Rule q ∷ a) t = F q t ⊎ (E q × IsUsedBySets E F W r a t)
