-- What comes right after a rule: FOLLOW of Aho, Lam, Sethi and Ullman, Compilers, section 4.4. In the book, derivations begin with the
-- start rule; here they may begin with any rule, even one that the start rule doesn't reach. Only the end token requires the start rule.
use Rattle.std.specs.Prelude.{◌≡◌, ℕ, ◌+◌, List, [], ◌∷◌, ◌++◌, ◌⊎◌}
use Rattle.derivation.specs.Grammar.{Sym, Grammar, Rule, Token, HasProduction}
use Rattle.derivation.specs.Derivation.{Derives}

-- some rule, `root`, derives a list in which token t comes right after rule r
pub record Follow (P : ℕ → List Sym → Type 0) (r t : ℕ) : Type 0 where
  pub root : ℕ
  pub before : List Sym
  pub after : List Sym
  pub derived : Derives P (Rule root ∷ []) (before ++ (Rule r ∷ Token t ∷ after))

-- the start rule derives a list that ends in rule r
pub record FollowEnd (P : ℕ → List Sym → Type 0) (r : ℕ) : Type 0 where
  pub before : List Sym
  pub derived : Derives P (Rule 0 ∷ []) (before ++ (Rule r ∷ []))

-- token t follows rule r, or t is the end token and r may come last
abbrev pub MayFollow : Grammar → ℕ → ℕ → Type 0
MayFollow g r t = Follow (HasProduction g) r t ⊎ ((t + 1 ≡ g.tokens) × FollowEnd (HasProduction g) r)
