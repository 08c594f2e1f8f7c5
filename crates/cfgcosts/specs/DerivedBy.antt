-- Sentences derived with productions that were opened one by one.
use Rattle.std.specs.Prelude.{◌≡◌, ℕ, ◌<◌, List, [], ◌∷◌, length, nat_eq, count_by}
use Rattle.derivation.specs.Grammar.{Grammar, Sym, Rule, HasProduction}
use Rattle.cfgtables.specs.Openings.{nth_production}
use Rattle.cfgchoices.specs.Splits.{Split}
use Rattle.derivation.specs.Derivation.{Step}
use Rattle.derivation.specs.Costs.{Least}

-- production p of the grammar is a production of rule r with these symbols
abbrev pub IsProductionAt : Grammar → ℕ → ℕ → List Sym → Type 0
IsProductionAt g p r symbols = (p < length g.productions) × (nth_production g p ≡ record { rule = r; symbols = symbols })

-- a derives b by a step with each of these productions, in this order
pub data DerivesBy (g : Grammar) : List ℕ → List Sym → List Sym → Type 0 where
  none : {a : List Sym} → DerivesBy g [] a a
  next : {p : ℕ} {positions : List ℕ} {a b c : List Sym} → Step (IsProductionAt g p) a b → DerivesBy g positions b c → DerivesBy g (p ∷ positions) a c

-- how often production p is in the list
abbrev pub times : ℕ → List ℕ → ℕ
times p positions = count_by (nat_eq p) positions

-- a rule of cost 0 contributes no tokens
abbrev pub IsFree : Grammar → (ℕ → ℕ) → ℕ → List ℕ → Type 0
IsFree g cost r w = Least (HasProduction g) cost r 0 × (w ≡ [])

-- With the productions, each used as often as it was opened, `all` times in total, the rule derives a list of the tokens w, in order,
-- with any rules of cost 0 before, between and after them.
pub record IsDerivedBy (g : Grammar) (cost : ℕ → ℕ) (opened : ℕ → ℕ) (all : ℕ) (r : ℕ) (w : List ℕ) : Type 0 where
  pub positions : List ℕ
  pub list : List Sym
  pub derived : DerivesBy g positions (Rule r ∷ []) list
  pub tokens : Split (IsFree g cost) list w
  pub counted : (p : ℕ) → p < length g.productions → opened p ≡ times p positions
  pub together : all ≡ length positions

-- no production of a rule of cost 0 was opened
abbrev pub OpensNoneFree : Grammar → (ℕ → ℕ) → (ℕ → ℕ) → Type 0
OpensNoneFree g cost opened = (p : ℕ) → p < length g.productions → Least (HasProduction g) cost (nth_production g p).rule 0 → opened p ≡ 0
