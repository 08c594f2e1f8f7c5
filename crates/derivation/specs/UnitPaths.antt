-- Unit derivations: a rule derives a single rule, possibly itself.
use Rattle.std.specs.Prelude.{ℕ, List, [], ◌∷◌, ◌++◌}
use Rattle.derivation.specs.Grammar.{Sym, Rule}
use Rattle.derivation.specs.Derivation.{Step, Derives}

-- a ⇒+ b: in one or more steps rule a derives the list that contains only rule b
pub record DerivesRule (P : ℕ → List Sym → Type 0) (a b : ℕ) : Type 0 where
  pub middle : List Sym
  pub first : Step P (Rule a ∷ []) middle
  pub around : Derives P middle (Rule b ∷ [])

-- a ⇒+ a: the rule is cyclic, so each of its sentences has infinitely many parse trees
abbrev pub IsCyclic : (ℕ → List Sym → Type 0) → ℕ → Type 0
IsCyclic P r = DerivesRule P r r

-- a unit step: a production of rule a contains rule b, and all symbols before and after b there are nullable
pub record UnitRefers (P : ℕ → List Sym → Type 0) (a b : ℕ) : Type 0 where
  pub before : List Sym
  pub after : List Sym
  pub has : P a (before ++ (Rule b ∷ after))
  pub prefix : Derives P before []
  pub back : Derives P after []

-- a path of one or more unit steps
pub data UnitPath (P : ℕ → List Sym → Type 0) : ℕ → ℕ → Type 0 where
  one : {a b : ℕ} → UnitRefers P a b → UnitPath P a b
  more : {a b c : ℕ} → UnitRefers P a b → UnitPath P b c → UnitPath P a c
