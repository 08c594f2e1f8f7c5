-- A work-list algorithm computes sets, one for each rule: each production adds what it gives, which depends on the sets of some rules.
use Rattle.std.specs.Prelude.{◌≡◌, ℕ, ◌<◌, ◌≤◌, ◌⊎◌, ◌↔◌, Bool, false, List, map, length, Contains}
use Rattle.derivation.specs.Grammar.{Grammar, Production, IsGrammar}
use Rattle.cfgindex.specs.declared.idxnewtype.RIdx.{RIdx}
use Rattle.cfgindex.specs.declared.idxnewtype.Symbol.{Symbol}
use Rattle.cfgtables.specs.NumberedSymbols.{sym_of}
use Rattle.cfgtables.specs.Openings.{nth_production}
use Rattle.cfgsets.specs.Waiting.{waits, Waits, NoneWaits}
use Rattle.cfgsets.specs.Work.{dependents_of, DependsOnGrown}

-- a production with this rule and these symbols
abbrev pub shown : {S : Type 0} → (S → ℕ) → RIdx S → List (Symbol S) → Production
shown number rule symbols = record { rule = number rule.0; symbols = map (sym_of number) symbols }

-- p is a production of some grammar, and `dependents` has an entry for each of its rules
abbrev pub CanNote : List (List ℕ) → Production → Type 0
CanNote dependents p = (g : Grammar) × IsGrammar g × (length dependents ≡ g.rules) × Contains g.productions p

-- p is a production of some grammar, the sets x are sets of that grammar, and `grown` has a bit for each rule, none of which is on
abbrev pub CanAddProduction : {X : Type 0} → (Grammar → X → Type 0) → X → List Bool → Production → Type 0
CanAddProduction holds x grown p = (g : Grammar) × IsGrammar g × holds g x × NoneWaits grown × (length grown ≡ g.rules) × Contains g.productions p

-- `holds`: what the sets say of the grammar is true; `covers`: they contain all that the production gives; `bits`: how many bits are on;
-- `depends_on`: what the production gives depends on the rule's set
module _ {X : Type 0} (holds : Grammar → X → Type 0) (covers : X → Production → Type 0) (bits : X → ℕ) (depends_on : Production → ℕ → Type 0) where
  -- `no_more r old new`: rule r's set has nothing in `new` that isn't in `old`
  module _ (no_more : ℕ → X → X → Type 0) where
    -- What p gives was added; `grown` has the rules whose sets grew. A production that was covered still is, if it depends on none of
    -- these; and p is covered, if it depends on none.
    pub record AddsProduction (p : Production) (old new : X) (grown : ℕ → Type 0) : Type 0 where
      pub sound : (g : Grammar) → IsGrammar g → Contains g.productions p → holds g old → holds g new
      pub no_less : bits old ≤ bits new
      pub more : (r : ℕ) → grown r → bits old < bits new
      pub gains : (r : ℕ) → (grown r ↔ (no_more r old new → ⊥))
      pub closed : ((r : ℕ) → depends_on p r → grown r → ⊥) → covers new p
      pub stays : (q : Production) → ((r : ℕ) → depends_on q r → grown r → ⊥) → covers old q → covers new q

    -- what p gives was added, and the productions that depend on a rule whose set grew were queued; those that waited before still do
    pub record AddsInto (p : Production) (dependents : List (List ℕ)) (old new : X) (waiting waiting' : List Bool) : Type 0 where
      pub sound : (g : Grammar) → IsGrammar g → Contains g.productions p → holds g old → holds g new
      pub no_less : bits old ≤ bits new
      pub more : (r : ℕ) → (no_more r old new → ⊥) → bits old < bits new
      pub shape : length waiting' ≡ length waiting
      pub again : (q : ℕ) → (Waits waiting' q ↔ (Waits waiting q ⊎ DependsOnGrown dependents (λ r. no_more r old new → ⊥) q))
      pub closed : (n : ℕ) → ((r : ℕ) → depends_on p r → Contains (dependents_of dependents r) n) → waits waiting' n ≡ false → covers new p
      pub stays : (q : Production) (n : ℕ) → ((r : ℕ) → depends_on q r → Contains (dependents_of dependents r) n) → waits waiting' n ≡ false
          → covers old q → covers new q

-- the sets contain all that each production gives
abbrev pub CoversEach : {X : Type 0} → (X → Production → Type 0) → Grammar → X → Type 0
CoversEach covers g x = (q : ℕ) → q < length g.productions → covers x (nth_production g q)
