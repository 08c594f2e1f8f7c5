-- Components of a graph: sets of nodes each of which is reachable from each other one.
use Rattle.std.specs.Prelude.{◌≡◌, ℕ, ◌<◌, ◌≤◌, ◌↔◌, List, [], Contains, get_or, length, slice_index}
use Rattle.std.specs.List.Sorted.{IsStrictlyIncreasing}
use Rattle.search.specs.Reachable.{Reachable}

-- zero or more edges lead from one node to another
abbrev pub ReachableFrom : (ℕ → ℕ → Type 0) → ℕ → ℕ → Type 0
ReachableFrom Leads a b = Reachable (λ n. n ≡ a) Leads b

-- those of the first so many nodes that have this number, in ascending order
pub record AreMembers (numbers : List ℕ) (nodes number : ℕ) (members : List ℕ) : Type 0 where
  pub ascending : IsStrictlyIncreasing members
  pub all : (node : ℕ) → Contains members node ↔ ((node < nodes) × (slice_index numbers node ≡ number))

-- Each of so many nodes has a number, which is that of its component. Nodes are in the same component exactly if each is reachable from the
-- other. Edges lead from nodes to nodes, which are in the same component or in an earlier one.
pub record AreComponents (Leads : ℕ → ℕ → Type 0) (nodes : ℕ) (numbers : List ℕ) (members : List (List ℕ)) : Type 0 where
  pub entries : length numbers ≡ nodes
  pub within : (node : ℕ) → node < nodes → slice_index numbers node < length members
  pub each : (number : ℕ) → AreMembers numbers nodes number (get_or members number [])
  pub some : (number : ℕ) → number < length members → (node : ℕ) × Contains (get_or members number []) node
  pub same : (a b : ℕ) → a < nodes → b < nodes → (slice_index numbers a ≡ slice_index numbers b) ↔ (ReachableFrom Leads a b × ReachableFrom Leads b a)
  pub order : (a b : ℕ) → a < nodes → Leads a b → (b < nodes) × (slice_index numbers b ≤ slice_index numbers a)
