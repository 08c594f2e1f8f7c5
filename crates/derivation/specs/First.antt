-- What a rule's derivations begin with: FIRST of Aho, Lam, Sethi and Ullman, Compilers, section 4.4. In the book, FIRST also contains the
-- empty list if the rule derives it; here that is a predicate of its own.
use Rattle.std.specs.Prelude.{ℕ, List, [], ◌∷◌}
use Rattle.derivation.specs.Grammar.{Sym, Rule, Token}
use Rattle.derivation.specs.Derivation.{Derives}

-- the rule derives a list of symbols that begins with the token
abbrev pub First : (ℕ → List Sym → Type 0) → ℕ → ℕ → Type 0
First P r t = (rest : List Sym) × Derives P (Rule r ∷ []) (Token t ∷ rest)

-- the rule is nullable: it derives the empty list
abbrev pub Nullable : (ℕ → List Sym → Type 0) → ℕ → Type 0
Nullable P r = Derives P (Rule r ∷ []) []
