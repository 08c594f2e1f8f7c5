-- Rules that are settled at their least costs, and the productions that settled them.
use Rattle.std.specs.Prelude.{◌≡◌, ℕ, ◌+◌, ◌<◌, ◌≤◌, min, List, Option, Some, None, All, length, sum_by}
use Rattle.derivation.specs.Grammar.{Grammar}
use Rattle.cfgtables.specs.Openings.{nth_production}
use Rattle.derivation.specs.Sums.{sum_of, symbol_cost}
use Rattle.derivation.specs.CostLists.{rule_cost}
use Rattle.cfgleast.specs.Certificate.{IsChosenBelow, rule_choice}
use Rattle.cfgleast.specs.CutSums.{IsCutSum}

-- 1 for a rule that isn't settled
abbrev pub unsettled : Option ℕ → ℕ
unsettled None = 1
unsettled (Some c) = 0

module _ (g : Grammar) (cost : ℕ → ℕ) (least : List (Option ℕ)) (choices : List (Option (ℕ × ℕ))) where
  -- the rule was settled by one of its productions, when all rules in that were settled
  pub record IsSettledBy (r c p n : ℕ) : Type 0 where
    pub choice : rule_choice choices r ≡ Some (p, n)
    pub index : p < length g.productions
    pub owner : (nth_production g p).rule ≡ r
    pub sum : IsCutSum cost (rule_cost least) (nth_production g p).symbols c
    pub below : All (IsChosenBelow choices n) (nth_production g p).symbols

  -- n rules were settled, each by a production, and the others have no choice
  pub record AreSettledSoFar (n : ℕ) : Type 0 where
    pub costs : length least ≡ g.rules
    pub listed : length choices ≡ g.rules
    pub counted : n + sum_by unsettled least ≡ g.rules
    pub chosen : (r c : ℕ) → rule_cost least r ≡ Some c → (p : ℕ) × (m : ℕ) × IsSettledBy r c p m × (m < n)
    pub none : (r : ℕ) → rule_cost least r ≡ None → rule_choice choices r ≡ None

  -- each productive rule was settled at its least cost, cut down to 65536
  pub record AreSettled (n : ℕ) : Type 0 where
    pub chosen : AreSettledSoFar n
    pub covered : (p m : ℕ) → p < length g.productions → sum_of (symbol_cost cost (rule_cost least)) (nth_production g p).symbols ≡ Some m
        → (d : ℕ) × (rule_cost least (nth_production g p).rule ≡ Some d) × (d ≤ min m 65536)
