-- The work list of an analysis: the productions that wait, and for each rule those that depend on its set.
use Rattle.std.specs.Prelude.{◌≡◌, ◌↔◌, ◌⊎◌, ℕ, Bool, List, [], length, Contains, slice_index_or}
use Rattle.cfgsets.specs.Waiting.{Waits}

-- the productions that depend on the rule's set
abbrev pub dependents_of : List (List ℕ) → ℕ → List ℕ
dependents_of dependents rule = slice_index_or dependents rule []

-- production p was added to the dependents of each rule whose set it depends on
pub record Notes (p : ℕ) (depends_on : ℕ → Type 0) (old new : List (List ℕ)) : Type 0 where
  pub shape : length new ≡ length old
  pub dependents : (r q : ℕ) → (Contains (dependents_of new r) q ↔ (Contains (dependents_of old r) q ⊎ ((q ≡ p) × depends_on r)))

-- the production depends on a rule whose set grew
pub record DependsOnGrown (dependents : List (List ℕ)) (grown : ℕ → Type 0) (q : ℕ) : Type 0 where
  pub rule : ℕ
  pub gains : grown rule
  pub noted : Contains (dependents_of dependents rule) q

-- the productions that depend on a rule whose set grew were queued; those that waited before still do
pub record Queues (dependents : List (List ℕ)) (grown : ℕ → Type 0) (old new : List Bool) : Type 0 where
  pub shape : length new ≡ length old
  pub waits : (q : ℕ) → (Waits new q ↔ (Waits old q ⊎ DependsOnGrown dependents grown q))
