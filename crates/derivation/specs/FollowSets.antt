-- The equations of FOLLOW, by which Aho, Lam, Sethi and Ullman, Compilers, section 4.4, compute it. E and F are as in the equations of
-- FIRST; `W r t` says that token t follows rule r. In the laws of src/lib.rt, W is a table of truth values too.
use Rattle.std.specs.Prelude.{ℕ, List, [], ◌∷◌}
use Rattle.derivation.specs.Grammar.{Sym, Rule, Token}
use Rattle.derivation.specs.FirstSets.{AreNullable, Begins}

-- W has for each rule in the list the tokens that the rest of the list begins with and, if the rest is nullable, those that follow the
-- list (k)
abbrev pub CoversFollow : (ℕ → Type 0) → (ℕ → ℕ → Type 0) → (ℕ → ℕ → Type 0) → List Sym → (ℕ → Type 0) → Type 0
CoversFollow E F W [] k = Unit {0}
CoversFollow E F W (Token u ∷ a) k = CoversFollow E F W a k
CoversFollow E F W (Rule q ∷ a) k = ((t : ℕ) → Begins E F a t → W q t) × (AreNullable E a → (t : ℕ) → k t → W q t) × CoversFollow E F W a k

-- CoversFollow holds for the symbols of each production: what follows the production's rule follows them
abbrev pub IsFollowClosed : (ℕ → List Sym → Type 0) → (ℕ → Type 0) → (ℕ → ℕ → Type 0) → (ℕ → ℕ → Type 0) → Type 0
IsFollowClosed P E F W = (r : ℕ) (symbols : List Sym) → P r symbols → CoversFollow E F W symbols (W r)
