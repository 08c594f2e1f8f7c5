-- Steps from unproductive rules to those that they need, and which of their groups are sink groups.
use Rattle.std.specs.Prelude.{◌≡◌, ◌↔◌, ◌⊎◌, ℕ, ◌<◌, List, All, Contains, Option, None, Some, MatchOption, get_or, length, slice_get}
use Rattle.std.specs.List.Sorted.{IsStrictlyIncreasing}
use Rattle.cfgrammar.specs.Grammar.{HasProduction, Sym, Rule}
use Rattle.cfgrammar.specs.Productive.{Unproductive}
use Rattle.cfgrammar.specs.Numbered.{Numbered, core}
use Rattle.cfgrammar.specs.Openings.{nth_production}
use Rattle.cfgrammar.specs.CyclicGroup.{CyclicGroup}
use Rattle.cfgrammar.specs.CyclicGroups.{IsInGroup}
use Rattle.cfgrammar.specs.StepLists.{AreWithin, HasStep}
use Rattle.cfgrammar.specs.UnitStep.{UnitStep}
use Rattle.cfgfindings.specs.SinkGroups.{DependsOn, IsInSinkGroup, Needs}

-- a step leads from rule a to rule b
pub record StepsTo (steps : List (List UnitStep)) (a b : ℕ) : Type 0 where
  pub step : UnitStep
  pub has : HasStep steps a step
  pub to : step.rule ≡ b

-- steps between these rules were put, and nothing else changed
pub record Puts (Put : ℕ → ℕ → Type 0) (old new : List (List UnitStep)) : Type 0 where
  pub shape : length new ≡ length old
  pub within : AreWithin old → AreWithin new
  pub steps : (a b : ℕ) → StepsTo new a b ↔ (StepsTo old a b ⊎ Put a b)

module _ (g : Numbered) where
  -- the rule is unproductive, and among the symbols
  pub record IsNeededIn (symbols : List Sym) (b : ℕ) : Type 0 where
    pub holds : Contains symbols (Rule b)
    pub needed : Unproductive (HasProduction (core g)) b

  -- by this production rule a needs rule b
  pub record NeedsBy (p a b : ℕ) : Type 0 where
    pub owner : (nth_production (core g) p).rule ≡ a
    pub unproductive : Unproductive (HasProduction (core g)) a
    pub needs : IsNeededIn (nth_production (core g) p).symbols b

  -- a step from each unproductive one of the first `rules` rules to itself, steps by the first `productions` productions, and no others
  pub record AreNeedsBelow (rules productions : ℕ) (steps : List (List UnitStep)) : Type 0 where
    pub entries : length steps ≡ length g.rules
    pub within : AreWithin steps
    pub are : (a b : ℕ) → StepsTo steps a b
        ↔ (((a < rules) × Unproductive (HasProduction (core g)) a × (b ≡ a)) ⊎ ((p : ℕ) × (p < productions) × NeedsBy p a b))

  -- a step from each unproductive rule to itself, steps to the rules that it needs, and no others
  pub record AreNeeds (steps : List (List UnitStep)) : Type 0 where
    pub entries : length steps ≡ length g.rules
    pub within : AreWithin steps
    pub are : (a b : ℕ) → a < length g.rules
        → StepsTo steps a b ↔ (Unproductive (HasProduction (core g)) a × ((b ≡ a) ⊎ Needs (HasProduction (core g)) a b))

  -- if the rule is in a sink group, exactly the rules of its group, in ascending order; otherwise none
  pub record AreGroupOf (r : ℕ) (rules : List ℕ) : Type 0 where
    pub within : All (λ q. q < length g.rules) rules
    pub ascending : IsStrictlyIncreasing rules
    pub all : (q : ℕ) → Contains rules q ↔ (IsInSinkGroup (HasProduction (core g)) r × DependsOn (HasProduction (core g)) r q)

  -- the group with this first rule is the root's
  pub record IsSinkGroupOf (groups : List (Option CyclicGroup)) (r first : ℕ) : Type 0 where
    pub group : CyclicGroup
    pub is : slice_get groups first ≡ Some (Some group)
    pub rules : AreGroupOf r group.rules.items

  -- for each rule in a sink group the first rule of the group
  pub record AreSinkGroups (groups : List (Option CyclicGroup)) (firsts : List (Option ℕ)) : Type 0 where
    pub entries : length firsts ≡ length g.rules
    pub each : (r : ℕ) → r < length g.rules
        → MatchOption (get_or firsts r None) (IsInSinkGroup (HasProduction (core g)) r → ⊥) (IsSinkGroupOf groups r)

-- these steps all lead to rules with this entry
abbrev pub AllLeadTo : List UnitStep → List (Option ℕ) → ℕ → Type 0
AllLeadTo steps entries first = (step : UnitStep) → Contains steps step → get_or entries step.rule None ≡ Some first

-- the steps from these rules all lead to rules with this entry
abbrev pub LeadTo : List (List UnitStep) → List (Option ℕ) → ℕ → List ℕ → Type 0
LeadTo steps entries first rules = (a b : ℕ) → Contains rules a → StepsTo steps a b → get_or entries b None ≡ Some first

-- no step leads from these rules to another
abbrev pub IsClosed : List (List UnitStep) → List ℕ → Type 0
IsClosed steps rules = (a b : ℕ) → Contains rules a → StepsTo steps a b → Contains rules b

-- what is true of a rule's entry once these rules were given one
abbrev pub IsSet : List ℕ → Option ℕ → List (Option ℕ) → List (Option ℕ) → ℕ → Type 0
IsSet rules entry old new rule = (Contains rules rule × (get_or new rule None ≡ entry))
    ⊎ ((Contains rules rule → ⊥) × (get_or new rule None ≡ get_or old rule None))

-- the rules have this entry if no step leads from them to another, and otherwise none
abbrev pub IsMarked : List (List UnitStep) → List ℕ → ℕ → List (Option ℕ) → List (Option ℕ) → Type 0
IsMarked steps rules first old new = (IsClosed steps rules × ((rule : ℕ) → IsSet rules (Some first) old new rule))
    ⊎ ((IsClosed steps rules → ⊥) × ((rule : ℕ) → IsSet rules None old new rule))

-- no step leads out of the group with this first rule, which has the rule
pub record IsInClosed (steps : List (List UnitStep)) (groups : List (Option CyclicGroup)) (rule first : ℕ) : Type 0 where
  pub within : IsInGroup groups rule first
  pub closed : IsClosed steps within.group.rules.items

module _ (steps : List (List UnitStep)) (groups : List (Option CyclicGroup)) (count : ℕ) where
  -- the first rule of the rule's group, if no step leads out of it and it is one of the first `count` groups
  abbrev pub IsFirstOf : ℕ → Option ℕ → Type 0
  IsFirstOf rule found = MatchOption found ((first : ℕ) → first < count → IsInClosed steps groups rule first → ⊥)
      (λ first. (first < count) × IsInClosed steps groups rule first)

  pub record AreFirsts (firsts : List (Option ℕ)) : Type 0 where
    pub entries : length firsts ≡ length groups
    pub each : (rule : ℕ) → IsFirstOf rule (get_or firsts rule None)
