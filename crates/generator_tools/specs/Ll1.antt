-- LL(1) grammars, and what an LL(1) parser does, as in Aho, Lam, Sethi and Ullman, Compilers, section 4.4: entry [r, t] of the parsing
-- table has the productions of rule r that are used at token t.
use Rattle.std.specs.Prelude.{◌≡◌, ◌≢◌, ◌↔◌, ◌⊎◌, ◌<◌, ℕ, List, [], ◌∷◌, length}
use Rattle.cfgrammar.specs.Derivation.{Derives}
use Rattle.cfgrammar.specs.Follow.{MayFollow}
use Rattle.cfgrammar.specs.Grammar.{Grammar, HasProduction, Sym, Token}
use Rattle.cfgrammar.specs.Openings.{nth_production}
use Rattle.generator_tools.specs.declared.ll1.Decision.{Decision}
use Rattle.generator_tools.specs.declared.ll1.Decision.TheVariants.{NoProduction, Production, Conflict}

-- FIRST of the symbols has the token: they derive a list that begins with it
abbrev pub FirstOf : (ℕ → List Sym → Type 0) → List Sym → ℕ → Type 0
FirstOf P symbols t = (rest : List Sym) × Derives P symbols (Token t ∷ rest)

-- a production of rule r with these symbols is used at the token: it is in FIRST of the symbols, or they are nullable and it is in FOLLOW of r
abbrev pub IsUsedAt : Grammar → ℕ → List Sym → ℕ → Type 0
IsUsedAt g r symbols t = FirstOf (HasProduction g) symbols t ⊎ (Derives (HasProduction g) symbols [] × MayFollow g r t)

-- production p is in entry [r, t] of the table
pub record IsEntry (g : Grammar) (r t p : ℕ) : Type 0 where
  pub within : p < length g.productions
  pub owner : (nth_production g p).rule ≡ r
  pub used : IsUsedAt g r (nth_production g p).symbols t

-- no entry has two productions
abbrev pub IsLl1 : Grammar → Type 0
IsLl1 g = (r t p q : ℕ) → r < g.rules → t < g.tokens → IsEntry g r t p → IsEntry g r t q → p ≡ q

-- of two productions of rule r: no token is in FIRST of both, at most one is nullable, and if the second is, no token is in FIRST of the first
-- and in FOLLOW of r
pub record AreApart (g : Grammar) (r : ℕ) (a b : List Sym) : Type 0 where
  pub first : (t : ℕ) → t < g.tokens → FirstOf (HasProduction g) a t → FirstOf (HasProduction g) b t → ⊥
  pub nullable : Derives (HasProduction g) a [] → Derives (HasProduction g) b [] → ⊥
  pub follow : Derives (HasProduction g) b [] → (t : ℕ) → t < g.tokens → FirstOf (HasProduction g) a t → MayFollow g r t → ⊥

-- the three conditions of section 4.4.3
abbrev pub MeetsConditions : Grammar → Type 0
MeetsConditions g = (p q : ℕ) → p < length g.productions → q < length g.productions → p ≢ q → (nth_production g p).rule ≡ (nth_production g q).rule
    → AreApart g (nth_production g p).rule (nth_production g p).symbols (nth_production g q).symbols

-- the entry [r, t] has no production, this one alone, or at least these two
abbrev pub IsDecision : {S : Type 0} → (S → ℕ) → Grammar → ℕ → ℕ → Decision S → Type 0
IsDecision number g r t NoProduction = (p : ℕ) → IsEntry g r t p → ⊥
IsDecision number g r t (Production p) = (q : ℕ) → (IsEntry g r t q ↔ (q ≡ number p.0))
IsDecision number g r t (Conflict p q) = IsEntry g r t (number p.0) × IsEntry g r t (number q.0) × (number p.0 ≢ number q.0)
