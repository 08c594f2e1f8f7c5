-- The sentences of a rule, and what they cost.
use Rattle.std.specs.Prelude.{◌≡◌, ℕ, List, [], ◌∷◌, map, sum_by}
use Rattle.derivation.specs.Grammar.{Sym, Rule, Token}
use Rattle.derivation.specs.Derivation.{Derives}

-- the rule derives this list of tokens
abbrev pub Sentence : (ℕ → List Sym → Type 0) → ℕ → List ℕ → Type 0
Sentence P r w = Derives P (Rule r ∷ []) (map Token w)

-- the sum of what the tokens of a list cost
abbrev pub cost_of : (ℕ → ℕ) → List ℕ → ℕ
cost_of cost w = sum_by cost w

-- some sentence costs c
abbrev pub HasSentenceOf : (ℕ → List Sym → Type 0) → (ℕ → ℕ) → ℕ → ℕ → Type 0
HasSentenceOf P cost r c = (w : List ℕ) × Sentence P r w × (cost_of cost w ≡ c)
