-- Which unproductive rules make others unproductive.
use Rattle.std.specs.Prelude.{◌≡◌, ℕ, List, Contains}
use Rattle.search.specs.Reachable.{Reachable}
use Rattle.cfgrammar.specs.Grammar.{Sym, Rule}
use Rattle.cfgrammar.specs.Productive.{Unproductive}

module _ (P : ℕ → List Sym → Type 0) where
  -- both rules are unproductive, and a production of the first contains the second
  pub record Needs (a b : ℕ) : Type 0 where
    pub unproductive : Unproductive P a
    pub symbols : List Sym
    pub has : P a symbols
    pub holds : Contains symbols (Rule b)
    pub needed : Unproductive P b

  -- a rule depends on itself, and on what it needs in any number of steps
  abbrev pub DependsOn : ℕ → ℕ → Type 0
  DependsOn a b = Reachable (λ rule. rule ≡ a) Needs b

  -- The rule is unproductive, and each rule that it depends on also depends on it. The rules that it depends on are its sink group: none
  -- of them needs a rule outside it.
  pub record IsInSinkGroup (r : ℕ) : Type 0 where
    pub unproductive : Unproductive P r
    pub back : (q : ℕ) → DependsOn r q → DependsOn q r
