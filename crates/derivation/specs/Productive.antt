-- Productive rules, which have a sentence (Hopcroft and Ullman). Bison calls the others useless.
use Rattle.std.specs.Prelude.{ℕ, List}
use Rattle.derivation.specs.Grammar.{Sym}
use Rattle.derivation.specs.Sentence.{Sentence}

-- the rule has a sentence
abbrev pub Productive : (ℕ → List Sym → Type 0) → ℕ → Type 0
Productive P r = (w : List ℕ) × Sentence P r w

-- the rule has none
abbrev pub Unproductive : (ℕ → List Sym → Type 0) → ℕ → Type 0
Unproductive P r = (w : List ℕ) → Sentence P r w → ⊥
