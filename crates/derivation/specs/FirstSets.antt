-- The equations of FIRST, by which Aho, Lam, Sethi and Ullman, Compilers, section 4.4, compute it. `E r` says that rule r is nullable, and
-- `F r t` that it begins with token t. Sets that are closed under the equations contain all that derivations show: src/lib.rt states this
-- as laws, where E and F are tables of truth values.
use Rattle.std.specs.Prelude.{◌≡◌, ℕ, List, [], ◌∷◌, ◌⊎◌}
use Rattle.derivation.specs.Grammar.{Sym, Rule, Token}

-- every symbol is a nullable rule
abbrev pub AreNullable : (ℕ → Type 0) → List Sym → Type 0
AreNullable E [] = Unit {0}
AreNullable E (Rule r ∷ a) = E r × AreNullable E a
AreNullable E (Token u ∷ a) = ⊥

-- after zero or more nullable rules comes the token, or a rule that begins with it
abbrev pub Begins : (ℕ → Type 0) → (ℕ → ℕ → Type 0) → List Sym → ℕ → Type 0
Begins E F [] t = ⊥
Begins E F (Rule r ∷ a) t = F r t ⊎ (E r × Begins E F a t)
Begins E F (Token u ∷ a) t = u ≡ t

-- if the symbols are all nullable, so is the rule; and the rule begins with each token that they begin with
pub record Covers (E : ℕ → Type 0) (F : ℕ → ℕ → Type 0) (rule : ℕ) (symbols : List Sym) : Type 0 where
  pub empty : AreNullable E symbols → E rule
  pub first : (t : ℕ) → Begins E F symbols t → F rule t

-- E and F cover each production
abbrev pub IsClosed : (ℕ → List Sym → Type 0) → (ℕ → Type 0) → (ℕ → ℕ → Type 0) → Type 0
IsClosed P E F = (r : ℕ) (symbols : List Sym) → P r symbols → Covers E F r symbols
