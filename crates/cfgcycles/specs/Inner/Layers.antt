-- Rules that were found from one rule by steps, in layers: those of a layer by one more step than those of the layer before.
use Rattle.std.specs.Prelude.{◌≡◌, ℕ, suc, ◌+◌, ◌<◌, ◌≤◌, ◌⊎◌, ◌↔◌, List, Option, None, Some, Contains, get_or, is_none, length}
use Rattle.std.specs.List.{count_by}
use Rattle.cfgcycles.specs.declared.shortest.Found.{Found}
use Rattle.cfgcycles.specs.declared.step_paths.UnitStep.{UnitStep}
use Rattle.cfgcycles.specs.StepPaths.{Leads}

-- what is recorded for a rule
abbrev pub noted : List (Option Found) → ℕ → Option Found
noted table rule = get_or table rule None

-- how many rules weren't found
abbrev pub left : List (Option Found) → ℕ
left table = count_by is_none table

-- the rule was found, by a path of this many steps
pub record IsFound (table : List (Option Found)) (rule n : ℕ) : Type 0 where
  pub found : Found
  pub is : noted table rule ≡ Some found
  pub long : found.length ≡ n

-- Rules that such steps lead to were found by paths of n steps, unless they were found before, and added after those that wait. No other
-- rules were.
pub record Finds (n : ℕ) (Taken : ℕ → UnitStep → Type 0) (old : List (Option Found)) (before : List ℕ) (new : List (Option Found)) (after : List ℕ) : Type 0 where
  pub shape : length new ≡ length old
  pub kept : (rule : ℕ) (found : Found) → noted old rule ≡ Some found → noted new rule ≡ Some found
  pub fresh : (rule : ℕ) (found : Found) → noted new rule ≡ Some found → (noted old rule ≡ Some found)
      ⊎ (Taken found.from found.step × (found.step.rule ≡ rule) × (found.length ≡ n) × Contains after rule)
  pub all : (rule : ℕ) (step : UnitStep) → Taken rule step → (found : Found) × (noted new step.rule ≡ Some found)
  pub waits : (rule : ℕ) → Contains after rule → Contains before rule ⊎ IsFound new rule n
  pub still : (rule : ℕ) → Contains before rule → Contains after rule
  pub once : left new + length after ≡ left old + length before

module _ (Has : ℕ → UnitStep → Type 0) (first : ℕ) where
  -- a path of n steps leads from the first rule to this one
  pub record PathTo (rule n : ℕ) : Type 0 where
    pub path : List UnitStep
    pub leads : Leads Has first path rule
    pub long : length path ≡ n

  -- the rule is in the layer of rules that were found by n steps
  abbrev pub InLayer : List (Option Found) → ℕ → ℕ → Type 0
  InLayer table n rule = ((n ≡ 0) × (rule ≡ first)) ⊎ ((0 < n) × IsFound table rule n)

  -- The first n layers: each rule that a path of at most n steps leads to was found by a shortest one, and the last layer has the rules
  -- that need n steps.
  pub record AreLayers (n : ℕ) (table : List (Option Found)) (layer : List ℕ) : Type 0 where
    pub has : (rule : ℕ) (found : Found) → noted table rule ≡ Some found → Has found.from found.step × (found.step.rule ≡ rule)
    pub previous : (rule : ℕ) (found : Found) → noted table rule ≡ Some found → (m : ℕ) × (found.length ≡ suc m) × InLayer table m found.from
    pub long : (rule : ℕ) (found : Found) → noted table rule ≡ Some found → found.length ≤ n
    pub all : (m rule : ℕ) → suc m ≤ n → PathTo rule (suc m) → (found : Found) × (noted table rule ≡ Some found) × (found.length ≤ suc m)
    pub last : (rule : ℕ) → Contains layer rule ↔ InLayer table n rule

  pub record HaveLayers (table : List (Option Found)) : Type 0 where
    pub count : ℕ
    pub layer : List ℕ
    pub are : AreLayers count table layer

  -- the path leads to the rule, and is as long as recorded for it
  pub record IsPathTo (table : List (Option Found)) (rule : ℕ) (path : List UnitStep) : Type 0 where
    pub found : Found
    pub is : noted table rule ≡ Some found
    pub leads : Leads Has first path rule
    pub long : length path ≡ found.length
