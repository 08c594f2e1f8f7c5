-- Cycles that make a rule's sentences grow.
use Rattle.std.specs.Prelude.{ℕ, ◌<◌, List, [], ◌∷◌, ◌++◌, map}
use Rattle.derivation.specs.Grammar.{Sym, Rule, Token}
use Rattle.derivation.specs.Derivation.{Step, Derives}
use Rattle.derivation.specs.Sentence.{cost_of}

-- in one or more steps x derives u x v, where u and v together derive tokens that cost something
pub record GrowingCycle (P : ℕ → List Sym → Type 0) (cost : ℕ → ℕ) (x : ℕ) : Type 0 where
  pub middle : List Sym
  pub u : List Sym
  pub v : List Sym
  pub word : List ℕ
  pub first : Step P (Rule x ∷ []) middle
  pub around : Derives P middle (u ++ (Rule x ∷ v))
  pub gives : Derives P (u ++ v) (map Token word)
  pub grows : 0 < cost_of cost word

-- x is useful for r: it occurs in a derivation of a sentence of r
pub record IsUseful (P : ℕ → List Sym → Type 0) (r x : ℕ) : Type 0 where
  pub before : List Sym
  pub after : List Sym
  pub word : List ℕ
  pub derives : Derives P (Rule r ∷ []) (before ++ (Rule x ∷ after))
  pub gives : Derives P (before ++ (Rule x ∷ after)) (map Token word)

-- a rule with a growing cycle is useful for r
abbrev pub ReachesGrowingCycle : (ℕ → List Sym → Type 0) → (ℕ → ℕ) → ℕ → Type 0
ReachesGrowingCycle P cost r = (x : ℕ) × GrowingCycle P cost x × IsUseful P r x
