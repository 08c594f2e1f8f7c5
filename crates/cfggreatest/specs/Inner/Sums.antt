-- What productions of a group's rules cost, without the rules of the group.
use Rattle.std.specs.Prelude.{◌≡◌, ℕ, ◌+◌, ◌*◌, ◌<◌, ◌≤◌, ◌⊎◌, ◌||◌, nat_lt, min, max, true, Bool, List, [], ◌∷◌, All, Contains, Option, None, Result, Ok, Err, length, slice_index, sum_by}
use Rattle.derivation.specs.Grammar.{Sym, Rule, Grammar, HasProduction}
use Rattle.derivation.specs.declared.errors.CostError.{CostError}
use Rattle.cfganalysis.specs.ProductiveRules.{AreProductiveRules, AreProductiveSymbols}
use Rattle.cfggreatest.specs.Inner.AtLeast.{AtLeast, HasWord, IsAbove, IsUnproductive, weigh}
use Rattle.cfggreatest.specs.Inner.Edges.{IsEdge}
use Rattle.cfggreatest.specs.Inner.Known.{AreTrue, known_below, known_cost, read_symbol}
use Rattle.cfggreatest.specs.declared.sums.Group.{Group}
use Rattle.cfggreatest.specs.declared.sums.Sums.{Sums}

module _ (cost : ℕ → ℕ) (known : ℕ → Option (Result (Option ℕ) CostError)) where
  -- a symbol whose costs are bounded: a token, a rule with a greatest cost, or a rule of the group
  abbrev pub IsRead : Sym → Type 0
  IsRead s = (o : Option ℕ) × (read_symbol cost known s ≡ Ok o)

  -- what the list costs, if rules of the group cost k, and `large` gives the costs that are too large
  abbrev pub sequence_cost : (ℕ → ℕ) → ℕ → List Sym → ℕ
  sequence_cost large k a = sum_by (weigh cost (λ r. known_cost k (large r) (known r))) a

  -- the symbols outside the group cost this much in total, which is `outer` when it is cut down to 65536; `inner` of the symbols are rules
  -- of the group
  pub record CostsBeside (large : ℕ → ℕ) (a : List Sym) (outer inner : ℕ) : Type 0 where
    pub rest : ℕ
    pub cut : outer ≡ min rest 65536
    pub whole : (k : ℕ) → sequence_cost large k a ≡ rest + k * inner

  pub record IsSum (a : List Sym) (outer inner : ℕ) : Type 0 where
    pub read : All IsRead a
    pub sum : (large : ℕ → ℕ) → ((r : ℕ) → 65535 < large r) → CostsBeside large a outer inner

  -- the costs of a symbol are unbounded
  abbrev pub StopsAt : List Sym → Type 0
  StopsAt a = (s : Sym) × Contains a s × (read_symbol cost known s ≡ Err (record {}))

  -- a rule of the group is beside something that costs
  pub record GrowsBeside (a : List Sym) : Type 0 where
    pub outer : ℕ
    pub inner : ℕ
    pub is : IsSum a outer inner
    pub some : 0 < outer
    pub one : 0 < inner

  module _ (productive : List Bool) where
    -- the sum of a list is no greater than this one, and the list makes no growing cycle: it has no rule of the group; or one, and all else
    -- costs nothing; or more, which is recorded, and all else costs nothing
    pub record IsUnder (a : List Sym) (x : Sums) : Type 0 where
      pub outer : ℕ
      pub inner : ℕ
      pub all : AreProductiveSymbols productive a
      pub is : IsSum a outer inner
      pub little : outer ≤ x.top
      pub few : (inner ≡ 0) ⊎ ((outer ≡ 0) × ((inner ≡ 1) ⊎ (x.twice ≡ true)))

    -- the sum of a list of productive symbols was added
    pub record AddsSequence (a : List Sym) (old new : Sums) : Type 0 where
      pub outer : ℕ
      pub inner : ℕ
      pub all : AreProductiveSymbols productive a
      pub is : IsSum a outer inner
      pub top : new.top ≡ max old.top outer
      pub twice : new.twice ≡ (old.twice || nat_lt 1 inner)
      pub alone : (inner ≡ 0) ⊎ (outer ≡ 0)

    abbrev pub GrowsSequence : List Sym → Type 0
    GrowsSequence a = AreProductiveSymbols productive a × (StopsAt a ⊎ GrowsBeside a)

    abbrev pub TakesSequence : List Sym → Sums → Sums → Type 0
    TakesSequence a old new = ((AreProductiveSymbols productive a → ⊥) × (new ≡ old)) ⊎ AddsSequence a old new

-- the results are true; the rules are a group, each above each; and each edge from them leads to one of them, or to a rule with a result
pub record IsGroup (g : Grammar) (cost : ℕ → ℕ) (productive : List Bool) (known : ℕ → Option (Result (Option ℕ) CostError)) (rules : List ℕ) : Type 0 where
  pub so : AreTrue (HasProduction g) cost known
  pub bits : AreProductiveRules g productive
  pub unsettled : (r : ℕ) → Contains rules r → known r ≡ None
  pub closed : (r x : ℕ) → Contains rules r → IsEdge g productive r x → known x ≡ None → Contains rules x
  pub above : (r x : ℕ) → Contains rules r → Contains rules x → IsAbove (HasProduction g) r x

abbrev pub known_in : Group → ℕ → Option (Result (Option ℕ) CostError)
known_in x = known_below x.numbers.now x.number x.results.now

-- so it is of the group's rules; each rule has a number and a result, and each token a cost
pub record IsGroupOf (g : Grammar) (x : Group) (rules : List ℕ) : Type 0 where
  pub numbers : length x.numbers.now ≡ g.rules
  pub results : length x.results.now ≡ g.rules
  pub costs : length x.costs.now ≡ g.tokens
  pub is : IsGroup g (slice_index x.costs.now) x.productive.now (known_in x) rules

abbrev pub HaveWords : (ℕ → List Sym → Type 0) → List ℕ → Type 0
HaveWords P rules = (r : ℕ) → Contains rules r → HasWord P (Rule r ∷ [])

module _ (P : ℕ → List Sym → Type 0) (cost : ℕ → ℕ) (rules : List ℕ) where
  -- each rule of the group costs n or more
  abbrev pub CostAtLeast : ℕ → Type 0
  CostAtLeast n = (r : ℕ) → Contains rules r → AtLeast P cost (Rule r ∷ []) n

  -- the group's costs grow
  abbrev pub AreUnbounded : Type 0
  AreUnbounded = (n : ℕ) → CostAtLeast n

  -- what rules of the group cost: at least the greatest sum, and if a production contains two of them, twice what all of them cost
  pub record AreReached (x : Sums) : Type 0 where
    pub small : x.top ≤ 65536
    pub costs : CostAtLeast x.top
    pub doubles : x.twice ≡ true → (n : ℕ) → CostAtLeast n → CostAtLeast (n + n)

-- each production of the rule yields nothing, or its sum is no greater than the greatest one
abbrev pub AreUnder : (ℕ → List Sym → Type 0) → (ℕ → ℕ) → (ℕ → Option (Result (Option ℕ) CostError)) → List Bool → ℕ → Sums → Type 0
AreUnder P cost known productive r x = (a : List Sym) → P r a → IsUnproductive P a ⊎ IsUnder cost known productive a x

-- a sum that is no less
pub record AreNoLess (old new : Sums) : Type 0 where
  pub top : old.top ≤ new.top
  pub twice : old.twice ≡ true → new.twice ≡ true
