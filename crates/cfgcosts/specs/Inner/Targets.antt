-- Rules with a single optimal production, a chain production, as the kinds of productions say.
use Rattle.std.specs.Prelude.{◌≡◌, ◌↔◌, ℕ, ◌<◌, ◌⊎◌, List, All, length, map, slice_index, slice_index_or}
use Rattle.cfgindex.specs.declared.idxnewtype.RIdx.{RIdx}
use Rattle.derivation.specs.Grammar.{Grammar}
use Rattle.cfgtables.specs.Openings.{nth_production}
use Rattle.cfgleast.specs.Generator.{CostTables, cost_answer}
use Rattle.cfgchoices.specs.Chains.{Along}
use Rattle.cfgchoices.specs.Kinds.{IsMinimal}
use Rattle.cfgchoices.specs.declared.kinds.Kind.{Kind}
use Rattle.cfgchoices.specs.declared.kinds.Kind.TheVariants.{Suboptimal, Chain}

-- the numbers of rules
abbrev pub rules_of : {S : Type 0} → (S → ℕ) → List (RIdx S) → List ℕ
rules_of number rules = map (λ r. number r.0) rules

module _ {S : Type 0} (number : S → ℕ) (g : Grammar) (kinds : List (Kind S)) where
  -- a chain production of rule r leads to rule q, and r has no other optimal production
  pub record LeadsOnlyTo (r q : ℕ) : Type 0 where
    pub index : ℕ
    pub within : index < length g.productions
    pub owner : (nth_production g index).rule ≡ r
    pub target : RIdx S
    pub kind : slice_index_or kinds index Suboptimal ≡ Chain target
    pub is : number target.0 ≡ q
    pub others : (p : ℕ) → p < length g.productions → (nth_production g p).rule ≡ r → (p ≡ index) ⊎ (slice_index_or kinds p Suboptimal ≡ Suboptimal)

  -- for each rule r a rule that zero or more links of `LeadsOnlyTo` lead to from r
  pub record AreTargets (targets : List ℕ) : Type 0 where
    pub all : length targets ≡ g.rules
    pub within : All (λ target. target < g.rules) targets
    pub each : (r : ℕ) → r < length targets → Along LeadsOnlyTo r (slice_index targets r)

-- a rule of the same cost and the same minimal sentences
pub record HasSameSentences (x : CostTables) (r q : ℕ) : Type 0 where
  pub rule : q < x.grammar.rules
  pub cost : cost_answer x q ≡ cost_answer x r
  pub same : (w : List ℕ) → IsMinimal x q w ↔ IsMinimal x r w
