-- Visits of an analysis: what holds after the first productions were opened, and what work is left.
use Rattle.std.specs.Prelude.{◌≡◌, ℕ, ◌+◌, ◌-◌, ◌*◌, ◌^◌, ◌<◌, ◌≤◌, Bool, false, cond, List, length, Contains}
use Rattle.derivation.specs.Grammar.{Grammar, Production, IsGrammar}
use Rattle.cfgtables.specs.Openings.{most_openings, most_openings_all, nth_production}
use Rattle.cfgsets.specs.Table.{bits_on}
use Rattle.cfgsets.specs.Waiting.{waits, Waits, NoneWaits}
use Rattle.cfgsets.specs.Work.{dependents_of}

-- `holds`: what the sets say of the grammar is true; `covers`: they contain all that the production gives; `bits`: how many bits are on;
-- `depends_on`: what the production gives depends on the rule's set
module _ {X : Type 0} (holds : Grammar → X → Type 0) (covers : X → Production → Type 0) (bits : X → ℕ) (depends_on : Production → ℕ → Type 0) where
  -- The first n productions were visited: each waits or is covered. Production q was opened `opened q` times, all together `all` times.
  pub record Visited (g : Grammar) (n : ℕ) (x : X) (dependents : List (List ℕ)) (waiting grown : List Bool) (opened : ℕ → ℕ) (all : ℕ) : Type 0 where
    pub sound : holds g x
    pub rules : length dependents ≡ g.rules
    pub gains : length grown ≡ g.rules
    pub positions : length waiting ≡ length g.productions
    pub idle : NoneWaits grown
    pub noted : (q r : ℕ) → q < n → depends_on (nth_production g q) r → Contains (dependents_of dependents r) q
    pub within : (q r : ℕ) → Contains (dependents_of dependents r) q → q < n
    pub known : (q : ℕ) → Waits waiting q → q < n
    pub covered : (q : ℕ) → q < n → waits waiting q ≡ false → covers x (nth_production g q)
    pub few : (q : ℕ) → q < n → opened q + cond (waits waiting q) 1 0 ≤ bits x + 1
    pub fresh : (q : ℕ) → n ≤ q → q < length g.productions → opened q ≡ 0
    pub together : all + bits_on waiting ≤ n + length g.productions * bits x

-- there are at most `most` productions, and the openings that may be needed fit into 64 bits for each, and into 128 bits in total
pub record CanVisit (most : ℕ) (g : Grammar) : Type 0 where
  pub grammar : IsGrammar g
  pub fits : length g.productions ≤ most
  pub small : most_openings g < 2 ^ 64 - 1
  pub all_small : most_openings_all g < 2 ^ 128 - 1

-- the work that is left, as one number in lexicographic order: first the bits to turn on, then the productions that wait
abbrev pub left_to_do : Grammar → ℕ → List Bool → ℕ
left_to_do g bits waiting = (g.rules * (g.tokens + 1) - bits) * (length waiting + 1) + bits_on waiting
