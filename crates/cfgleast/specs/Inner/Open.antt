-- Productions on the way to their sums: each waits for one of its rules until these are all settled, and is then queued, unless its rule is
-- settled at most at its sum, or has a production in the queue whose sum is at most that. `settled` says which rules are settled, and at
-- which cost.
use Rattle.std.specs.Prelude.{◌≡◌, ℕ, ◌+◌, ◌<◌, ◌≤◌, ◌++◌, List, [], ◌∷◌, Option, Some, None, All, Contains, length, take, drop, sum_by, slice_index, slice_index_or, slice_set}
use Rattle.std.specs.List.Sorted.{IsPermutation}
use Rattle.derivation.specs.Grammar.{Rule, Grammar, IsGrammar}
use Rattle.cfgtables.specs.Openings.{nth_production}
use Rattle.cfgleast.specs.declared.partial.Partial.{Partial}
use Rattle.derivation.specs.CostLists.{rule_cost}
use Rattle.cfgleast.specs.CutSums.{IsCutSum}

-- the productions that wait for a rule
abbrev pub waiting_for : List (List Partial) → ℕ → List Partial
waiting_for waiting r = slice_index_or waiting r []

-- a production is one of these
pub record IsAmong (list : List Partial) (p : ℕ) : Type 0 where
  pub entry : Partial
  pub among : Contains list entry
  pub is : entry.production ≡ p

module _ (cost : ℕ → ℕ) (settled : ℕ → Option ℕ) (g : Grammar) where
  -- the production exists, and its first symbols were summed
  pub record IsPartial (x : Partial) : Type 0 where
    pub index : x.production < length g.productions
    pub taken : x.taken ≤ length (nth_production g x.production).symbols
    pub sum : IsCutSum cost settled (take x.taken (nth_production g x.production).symbols) x.sum

  -- the next symbol is this rule
  pub record WaitsFor (r : ℕ) (x : Partial) : Type 0 where
    pub index : x.production < length g.productions
    pub taken : x.taken < length (nth_production g x.production).symbols
    pub symbol : slice_index_or (nth_production g x.production).symbols x.taken (Rule r) ≡ Rule r
    pub sum : IsCutSum cost settled (take x.taken (nth_production g x.production).symbols) x.sum

  -- rule r is settled at a cost of at most c, or one of its productions is queued with a sum of at most c
  pub data HasAtMost (queue : List (ℕ × ℕ)) (r c : ℕ) : Type 0 where
    by_cost : (d : ℕ) → settled r ≡ Some d → d ≤ c → HasAtMost queue r c
    by_sum : (b p : ℕ) → Contains queue (b, p) → (nth_production g p).rule ≡ r → b ≤ c → HasAtMost queue r c

  -- for each rule the least sum of those of its productions that were queued so far, or a number past 65536
  pub record AreBests (queue : List (ℕ × ℕ)) (bests : List ℕ) : Type 0 where
    pub rules : length bests ≡ g.rules
    pub each : (r : ℕ) → r < length bests → slice_index bests r ≤ 65536 → HasAtMost queue r (slice_index bests r)

  -- production p entered the queue with its sum, or its rule needs it no longer, or it waits for a rule that isn't settled
  pub data MovesOn (p : ℕ) (queue queue' : List (ℕ × ℕ)) (waiting waiting' : List (List Partial)) : Type 0 where
    enters : (c : ℕ) → IsCutSum cost settled (nth_production g p).symbols c → IsPermutation ((c, p) ∷ queue) queue' → waiting' ≡ waiting
        → MovesOn p queue queue' waiting waiting'
    beaten : (c : ℕ) → IsCutSum cost settled (nth_production g p).symbols c → HasAtMost queue (nth_production g p).rule c → queue' ≡ queue → waiting' ≡ waiting
        → MovesOn p queue queue' waiting waiting'
    waits : (r : ℕ) (x : Partial) → x.production ≡ p → WaitsFor r x → settled r ≡ None → r < length waiting → queue' ≡ queue
        → waiting' ≡ slice_set waiting r (waiting_for waiting r ++ x ∷ []) → MovesOn p queue queue' waiting waiting'

  module _ (queue : List (ℕ × ℕ)) (waiting : List (List Partial)) (moving : ℕ → Type 0) where
    -- where a production is: past its sum, which its rule has at most, waiting for a rule that isn't settled, or removed
    pub data Phase (p : ℕ) : Type 0 where
      past : (c : ℕ) → IsCutSum cost settled (nth_production g p).symbols c → HasAtMost queue (nth_production g p).rule c → Phase p
      held : (r : ℕ) (x : Partial) → settled r ≡ None → Contains (waiting_for waiting r) x → x.production ≡ p → Phase p
      moved : moving p → Phase p

    -- each production is in one of these phases, and what is settled costs at most what is queued
    pub record AreOpen (floor : ℕ) : Type 0 where
      pub queued_sum : (c p : ℕ) → Contains queue (c, p) → IsCutSum cost settled (nth_production g p).symbols c
      pub queued_position : (c p : ℕ) → Contains queue (c, p) → p < length g.productions
      pub queued_above : (c p : ℕ) → Contains queue (c, p) → floor ≤ c
      pub held_for : (r : ℕ) (x : Partial) → Contains (waiting_for waiting r) x → WaitsFor r x
      pub phase : (p : ℕ) → p < length g.productions → Phase p
      pub settled_below : (r c : ℕ) → settled r ≡ Some c → c ≤ floor
      pub limit : floor ≤ 65536

  -- each production waits, or is past its sum
  abbrev pub AreAllOpen : List (ℕ × ℕ) → List (List Partial) → Type 0
  AreAllOpen queue waiting = (floor : ℕ) × AreOpen queue waiting (λ p. ⊥) floor

  -- of the productions that waited for a rule, the first i have moved on; the rule is settled, at a cost that is at most what the others
  -- cost
  pub record AreWaking (queue : List (ℕ × ℕ)) (waiting : List (List Partial)) (woken : List Partial) (i : ℕ) : Type 0 where
    pub rule : ℕ
    pub floor : ℕ
    pub now : settled rule ≡ Some floor
    pub for : All (WaitsFor rule) woken
    pub state : AreOpen queue waiting (IsAmong (drop i woken)) floor

-- how many productions are in the queue or wait
abbrev pub count_open : List (ℕ × ℕ) → List (List Partial) → ℕ
count_open queue waiting = length queue + sum_by length waiting

-- costs of tokens and of rules for a grammar, whose productions can be counted up to `most`
pub record AreInput (g : Grammar) (most : ℕ) (costs : List ℕ) (least : List (Option ℕ)) : Type 0 where
  pub grammar : IsGrammar g
  pub positions : length g.productions ≤ most
  pub tokens : length costs ≡ g.tokens
  pub rules : length least ≡ g.rules

-- production p of rule r is queued with its sum c, which is then the rule's best, if the best was more
pub data Enqueues (r c p : ℕ) (queue queue' : List (ℕ × ℕ)) (bests bests' : List ℕ) : Type 0 where
  enqueued : c < slice_index bests r → IsPermutation ((c, p) ∷ queue) queue' → bests' ≡ slice_set bests r c → Enqueues r c p queue queue' bests bests'
  declined : slice_index bests r ≤ c → queue' ≡ queue → bests' ≡ bests → Enqueues r c p queue queue' bests bests'

-- the least entry has left the queue
pub record HasPopped (g : Grammar) (cost : ℕ → ℕ) (least : List (Option ℕ)) (top : ℕ × ℕ) (queue : List (ℕ × ℕ)) (bests : List ℕ) (waiting : List (List Partial)) : Type 0 where
  pub before : List (ℕ × ℕ)
  pub known : AreBests cost (rule_cost least) g before bests
  pub state : AreAllOpen cost (rule_cost least) g before waiting
  pub out : IsPermutation before (top ∷ queue)
  pub cheapest : All (λ (entry : ℕ × ℕ). top.0 ≤ entry.0) queue
