-- Lists of symbols that cost some number or more, and rules that cost as much as others, whatever tokens cost.
use Rattle.std.specs.Prelude.{ℕ, ◌≤◌, List, [], ◌∷◌}
use Rattle.derivation.specs.Grammar.{Sym, Rule, Token}
use Rattle.derivation.specs.Sentence.{cost_of}
use Rattle.derivation.specs.Tree.{Yields}

-- what a symbol costs, by the costs of tokens and of rules
abbrev pub weigh : (ℕ → ℕ) → (ℕ → ℕ) → Sym → ℕ
weigh cost costs (Rule r) = costs r
weigh cost costs (Token t) = cost t

module _ (P : ℕ → List Sym → Type 0) where
  -- the list yields a word, or it yields none
  abbrev pub HasWord : List Sym → Type 0
  HasWord a = (w : List ℕ) × Yields P a w

  abbrev pub IsUnproductive : List Sym → Type 0
  IsUnproductive a = (w : List ℕ) → Yields P a w → ⊥

  -- the list yields a word that costs n or more
  pub record AtLeast (cost : ℕ → ℕ) (a : List Sym) (n : ℕ) : Type 0 where
    pub word : List ℕ
    pub tree : Yields P a word
    pub enough : n ≤ cost_of cost word

  -- the list costs at least what the rule does
  abbrev pub IsSequenceAbove : List Sym → ℕ → Type 0
  IsSequenceAbove a x = (cost : ℕ → ℕ) (n : ℕ) → AtLeast cost (Rule x ∷ []) n → AtLeast cost a n

  abbrev pub IsAbove : ℕ → ℕ → Type 0
  IsAbove r x = IsSequenceAbove (Rule r ∷ []) x
