-- Productive rules, as a bit for each rule.
use Rattle.std.specs.Prelude.{◌≡◌, ◌↔◌, ℕ, Bool, true, false, List, All, length, IsTrue, slice_index_or}
use Rattle.derivation.specs.Grammar.{Sym, Rule, Token, Grammar, HasProduction}
use Rattle.derivation.specs.Productive.{Productive}

abbrev pub is_productive : List Bool → ℕ → Bool
is_productive bits r = slice_index_or bits r false

-- whether the symbol is a token, or a rule whose bit is on
abbrev pub is_productive_symbol : List Bool → Sym → Bool
is_productive_symbol bits (Rule r) = is_productive bits r
is_productive_symbol bits (Token t) = true

abbrev pub AreProductiveSymbols : List Bool → List Sym → Type 0
AreProductiveSymbols bits a = All (λ s. IsTrue (is_productive_symbol bits s)) a

-- the bits that are on are exactly those of productive rules
pub record AreProductiveRules (g : Grammar) (bits : List Bool) : Type 0 where
  pub rules : length bits ≡ g.rules
  pub productive : (r : ℕ) → (IsTrue (slice_index_or bits r false) ↔ Productive (HasProduction g) r)
