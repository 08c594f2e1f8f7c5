-- What is reachable, and what a search has reached so far.
use Rattle.std.specs.Prelude.{◌≡◌, ◌↔◌, ◌⊎◌, ℕ, ◌+◌, Bool, false, List, [], length, replicate, Contains, IsTrue, count_by, slice_index_or}

-- what is reachable: the seeds, and whatever they lead to in any number of steps
pub data Reachable {A : Type 0} (Seed : A → Type 0) (Leads : A → A → Type 0) : A → Type 0 where
  seed : {a : A} → Seed a → Reachable Seed Leads a
  led : {a b : A} → Reachable Seed Leads a → Leads a b → Reachable Seed Leads b

-- a bit for each node, which says whether it was reached, and the queued nodes
pub record SearchState : Type 0 where
  pub reachable : List Bool
  pub waiting : List ℕ

-- none of so many nodes was reached
abbrev pub unsearched : ℕ → SearchState
unsearched nodes = record { reachable = replicate nodes false; waiting = [] }

abbrev pub IsReachableIn : SearchState → ℕ → Type 0
IsReachableIn x node = IsTrue (slice_index_or x.reachable node false)

abbrev pub count_reachable : SearchState → ℕ
count_reachable x = count_by (λ bit. bit) x.reachable

-- the nodes that were found are reached, and no others; each newly reached one is queued once
pub record Reaches (Found : ℕ → Type 0) (old new : SearchState) : Type 0 where
  pub shape : length new.reachable ≡ length old.reachable
  pub reachable : (n : ℕ) → (IsReachableIn new n ↔ (IsReachableIn old n ⊎ Found n))
  pub fresh : (n : ℕ) → IsReachableIn new n → IsReachableIn old n ⊎ Contains new.waiting n
  pub still : (n : ℕ) → Contains old.waiting n → Contains new.waiting n
  pub waits : (n : ℕ) → Contains new.waiting n → Contains old.waiting n ⊎ IsReachableIn new n
  pub once : length new.waiting + count_reachable old ≡ length old.waiting + count_reachable new

-- what some of these things find
pub record FoundBy {A : Type 0} (Finds : A → ℕ → Type 0) (things : List A) (n : ℕ) : Type 0 where
  pub thing : A
  pub among : Contains things thing
  pub finds : Finds thing n
