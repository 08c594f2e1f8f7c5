-- Groups of rules that are on common cycles. `Has a s` says that rule a has the step s.
use Rattle.std.specs.Prelude.{◌≡◌, ℕ, ◌<◌, ◌≤◌, ◌↔◌, List, None, Some, Contains, get_or, length, slice_get, Option, MatchOption}
use Rattle.std.specs.List.Sorted.{IsStrictlyIncreasing}
use Rattle.cfgcycles.specs.declared.groups.CyclicGroup.{CyclicGroup}
use Rattle.cfgcycles.specs.declared.step_paths.UnitStep.{UnitStep}
use Rattle.cfgcycles.specs.StepPaths.{IsShortestCycle, Leads}

module _ (Has : ℕ → UnitStep → Type 0) where
  -- one or more steps lead from rule a to rule b
  pub record LeadsTo (a b : ℕ) : Type 0 where
    pub path : List UnitStep
    pub some : 0 < length path
    pub leads : Leads Has a path b

  -- a cycle has both rules
  pub record OnCommonCycle (a b : ℕ) : Type 0 where
    pub there : LeadsTo a b
    pub back : LeadsTo b a

  -- the rule has a cycle, and each rule on a common cycle with it has a higher number, or is the rule itself
  pub record IsFirst (rule : ℕ) : Type 0 where
    pub cyclic : OnCommonCycle rule rule
    pub least : (other : ℕ) → OnCommonCycle rule other → rule ≤ other

  -- exactly the rules on a common cycle with the first one, which has the lowest number, in ascending order, and a shortest cycle of the
  -- first one
  pub record IsGroup (first : ℕ) (rules : List ℕ) (cycle : List UnitStep) : Type 0 where
    pub ascending : IsStrictlyIncreasing rules
    pub all : (rule : ℕ) → Contains rules rule ↔ OnCommonCycle first rule
    pub least : (rule : ℕ) → Contains rules rule → first ≤ rule
    pub shortest : IsShortestCycle Has first cycle

  -- the group whose first rule this is, or `None` if it is the first rule of no group
  abbrev pub IsGroupOf : ℕ → Option CyclicGroup → Type 0
  IsGroupOf rule found = MatchOption found (IsFirst rule → ⊥) (λ group. IsGroup rule group.rules.items group.cycle.items)

  -- an entry for each of so many rules: the group whose first rule it is, or `None`
  pub record AreGroups (rules : ℕ) (groups : List (Option CyclicGroup)) : Type 0 where
    pub entries : length groups ≡ rules
    pub each : (rule : ℕ) → rule < rules → IsGroupOf rule (get_or groups rule None)

-- the group with this first rule has the rule
pub record IsInGroup (groups : List (Option CyclicGroup)) (rule first : ℕ) : Type 0 where
  pub group : CyclicGroup
  pub is : slice_get groups first ≡ Some (Some group)
  pub has : Contains group.rules.items rule

-- one group has the rule, and no other
pub record IsInOneGroup (groups : List (Option CyclicGroup)) (rule : ℕ) : Type 0 where
  pub first : ℕ
  pub within : IsInGroup groups rule first
  pub only : (other : ℕ) → IsInGroup groups rule other → other ≡ first
