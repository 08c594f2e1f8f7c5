-- Paths from rule to rule.
use Rattle.std.specs.Prelude.{ℕ, List, [], ◌∷◌, ◌++◌, Contains}
use Rattle.derivation.specs.Grammar.{Sym, Rule}
use Rattle.derivation.specs.Derivation.{Step, Derives}

-- a production of rule a contains rule b
pub record Refers (P : ℕ → List Sym → Type 0) (a b : ℕ) : Type 0 where
  pub symbols : List Sym
  pub has : P a symbols
  pub holds : Contains symbols (Rule b)

-- a sequence of two or more rules, each of which has a production that contains the next
pub data Path (P : ℕ → List Sym → Type 0) : ℕ → ℕ → Type 0 where
  one : {a b : ℕ} → Refers P a b → Path P a b
  more : {a b c : ℕ} → Refers P a b → Path P b c → Path P a c

-- in one or more steps, rule a derives a list that contains rule b
pub record DerivesContaining (P : ℕ → List Sym → Type 0) (a b : ℕ) : Type 0 where
  pub middle : List Sym
  pub before : List Sym
  pub after : List Sym
  pub first : Step P (Rule a ∷ []) middle
  pub derives : Derives P middle (before ++ (Rule b ∷ after))
