-- Derivations, as in Aho, Lam, Sethi and Ullman, Compilers, section 4.2. `P r symbols` says that rule r has a production with these
-- symbols; for a grammar g, P is `HasProduction g`.
use Rattle.std.specs.Prelude.{◌≡◌, ℕ, List, ◌∷◌, ◌++◌}
use Rattle.derivation.specs.Grammar.{Sym, Rule}

-- a ⇒ b: a rule in a is replaced by the symbols of one of its productions
pub record Step (P : ℕ → List Sym → Type 0) (a b : List Sym) : Type 0 where
  pub before : List Sym
  pub rule : ℕ
  pub after : List Sym
  pub symbols : List Sym
  pub has : P rule symbols
  pub source : a ≡ before ++ (Rule rule ∷ after)
  pub target : b ≡ before ++ (symbols ++ after)

-- a ⇒* b: zero or more steps
pub data Derives (P : ℕ → List Sym → Type 0) : List Sym → List Sym → Type 0 where
  none : {a : List Sym} → Derives P a a
  next : {a b c : List Sym} → Step P a b → Derives P b c → Derives P a c
