-- What the cost tables know of productions: which are optimal, which of these are base productions, and which are chain productions, that
-- lead to a rule of the same cost. Rules that cost nothing, or more than 65535, have neither.
use Rattle.std.specs.Prelude.{◌≡◌, ℕ, ◌<◌, List, Some, Contains, length, map, slice_index_or}
use Rattle.cfgindex.specs.declared.idxnewtype.PIdx.{PIdx}
use Rattle.cfgindex.specs.declared.idxnewtype.RIdx.{RIdx}
use Rattle.derivation.specs.Grammar.{Grammar, Rule, HasProduction}
use Rattle.derivation.specs.Costs.{Minimal}
use Rattle.cfgtables.specs.Openings.{nth_production}
use Rattle.cfgleast.specs.Generator.{CostTables, cost_answer, token_cost}
use Rattle.cfgchoices.specs.Chains.{Along}
use Rattle.cfgchoices.specs.Chains as chains
use Rattle.cfgchoices.specs.declared.kinds.Kind.{Kind}
use Rattle.cfgchoices.specs.declared.kinds.Kind.TheVariants.{Suboptimal, Base, Chain}

-- production p is optimal, and its rule's least cost is 1 to 65535
pub record IsOptimal (x : CostTables) (p : ℕ) : Type 0 where
  pub index : p < length x.grammar.productions
  pub cost : ℕ
  pub positive : 0 < cost
  pub rule : cost_answer x (nth_production x.grammar p).rule ≡ Some cost
  pub is : chains.IsOptimal (HasProduction x.grammar) (token_cost x) (nth_production x.grammar p).rule (nth_production x.grammar p).symbols cost

-- p is a chain production that leads to rule q: q is in p, and costs as much as p
pub record IsChain (x : CostTables) (p q : ℕ) : Type 0 where
  pub optimal : IsOptimal x p
  pub among : Contains (nth_production x.grammar p).symbols (Rule q)
  pub same : cost_answer x q ≡ Some optimal.cost

-- p is a base production: optimal, and each rule in it costs less
pub record IsBase (x : CostTables) (p : ℕ) : Type 0 where
  pub optimal : IsOptimal x p
  pub is : chains.IsBase (HasProduction x.grammar) (token_cost x) (nth_production x.grammar p).rule (nth_production x.grammar p).symbols

-- the kind of production p
abbrev pub IsKind : {S : Type 0} → (S → ℕ) → CostTables → ℕ → Kind S → Type 0
IsKind number x p Suboptimal = IsOptimal x p → ⊥
IsKind number x p Base = IsBase x p
IsKind number x p (Chain r) = IsChain x p (number r.0)

-- the kind of each production
pub record AreKinds {S : Type 0} (number : S → ℕ) (x : CostTables) (kinds : List (Kind S)) : Type 0 where
  pub all : length kinds ≡ length x.grammar.productions
  pub each : (p : ℕ) → p < length kinds → IsKind number x p (slice_index_or kinds p Suboptimal)

-- a chain production of rule r leads to rule q
pub record LeadsTo (x : CostTables) (r q : ℕ) : Type 0 where
  pub index : ℕ
  pub owner : (nth_production x.grammar index).rule ≡ r
  pub target : IsChain x index q

-- w is a minimal sentence of the rule
abbrev pub IsMinimal : CostTables → ℕ → List ℕ → Type 0
IsMinimal x = Minimal (HasProduction x.grammar) (token_cost x)

-- zero or more chain productions lead from rule r to the rule of base production p
pub record ReachesBase (x : CostTables) (r p : ℕ) : Type 0 where
  pub leads : Along (LeadsTo x) r (nth_production x.grammar p).rule
  pub base : IsBase x p

-- the numbers of productions
abbrev pub production_numbers : {S : Type 0} → (S → ℕ) → List (PIdx S) → List ℕ
production_numbers number productions = map (λ p. number p.0) productions

-- each chain production in the list leads to a rule of the grammar
abbrev pub HasRulesAsTargets : {S : Type 0} → (S → ℕ) → Grammar → List (Kind S) → Type 0
HasRulesAsTargets {S} number g kinds = (p : ℕ) (target : RIdx S) → slice_index_or kinds p Suboptimal ≡ Chain target → number target.0 < g.rules
