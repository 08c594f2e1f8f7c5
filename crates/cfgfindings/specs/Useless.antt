-- Symbols that the start rule reaches only through productions that can't be used.
use Rattle.std.specs.Prelude.{◌≡◌, ℕ, List, Contains}
use Rattle.search.specs.Reachable.{Reachable}
use Rattle.cfgrammar.specs.Grammar.{Grammar, HasProduction, Sym, Rule, Token}
use Rattle.cfgrammar.specs.Sentence.{Sentence}
use Rattle.cfgrammar.specs.Uses.{IsUsable}

-- A rule leads to each symbol of its productions, which P has; a token leads to nothing.
abbrev pub Leads : (ℕ → List Sym → Type 0) → Sym → Sym → Type 0
Leads P (Rule r) symbol = (symbols : List Sym) × P r symbols × Contains symbols symbol
Leads P (Token t) symbol = ⊥

-- The start rule is reachable, and so is what a reachable symbol leads to.
abbrev pub IsReachable : (ℕ → List Sym → Type 0) → Sym → Type 0
IsReachable P symbol = Reachable (λ first. first ≡ Rule 0) (Leads P) symbol

-- The symbol is reachable, but not by usable productions. If the start rule is unproductive, no production of it is usable, and no symbol
-- counts as useless.
pub record IsUseless (g : Grammar) (symbol : Sym) : Type 0 where
  pub sentence : List ℕ
  pub is : Sentence (HasProduction g) 0 sentence
  pub reachable : IsReachable (HasProduction g) symbol
  pub unusably : IsReachable (IsUsable (HasProduction g)) symbol → ⊥
