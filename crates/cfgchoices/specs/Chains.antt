-- How minimal sentences arise: a base production puts them together from tokens and cheaper ones, and chain productions pass them on
-- between rules of the same least cost.
use Rattle.std.specs.Prelude.{◌≡◌, ℕ, ◌<◌, List, Contains}
use Rattle.derivation.specs.Grammar.{Sym, Rule}
use Rattle.derivation.specs.Sentence.{cost_of}
use Rattle.derivation.specs.Costs.{Least, Minimal}
use Rattle.cfgchoices.specs.Splits.{Split}

-- a chain of zero or more links
pub data Along (Link : ℕ → ℕ → Type 0) : ℕ → ℕ → Type 0 where
  here : {a : ℕ} → Along Link a a
  next : {a b c : ℕ} → Link a b → Along Link b c → Along Link a c

module _ (P : ℕ → List Sym → Type 0) (cost : ℕ → ℕ) where
  -- an optimal production: its rule's least cost is c, and minimal sentences of its symbols cost c in total
  pub record IsOptimal (r : ℕ) (symbols : List Sym) (c : ℕ) : Type 0 where
    pub has : P r symbols
    pub least : Least P cost r c
    pub word : List ℕ
    pub parts : Split (Minimal P cost) symbols word
    pub is : cost_of cost word ≡ c

  -- a chain production of rule a leads to rule b, which costs as much
  pub record LeadsTo (a b : ℕ) : Type 0 where
    pub symbols : List Sym
    pub least : ℕ
    pub optimal : IsOptimal a symbols least
    pub among : Contains symbols (Rule b)
    pub same : Least P cost b least

  -- a base production: optimal, and each rule in it costs less
  pub record IsBase (r : ℕ) (symbols : List Sym) : Type 0 where
    pub least : ℕ
    pub optimal : IsOptimal r symbols least
    pub less : (q d : ℕ) → Contains symbols (Rule q) → Least P cost q d → d < least

  -- zero or more chain productions lead from rule r to the rule of this base production
  pub record ReachesBase (r owner : ℕ) (symbols : List Sym) : Type 0 where
    pub leads : Along LeadsTo r owner
    pub base : IsBase owner symbols

  -- w consists of minimal sentences of the symbols of a base production that r reaches
  pub record IsMadeByBase (r : ℕ) (w : List ℕ) : Type 0 where
    pub owner : ℕ
    pub symbols : List Sym
    pub reaches : ReachesBase r owner symbols
    pub parts : Split (Minimal P cost) symbols w
