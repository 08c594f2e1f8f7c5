-- Which of the first nodes of a graph are reachable from its nodes. Each node leads to those in its list.
use Rattle.std.specs.Prelude.{◌≡◌, ◌<◌, ◌↔◌, ◌⊎◌, ℕ, Bool, false, List, [], Contains, IsTrue, get_or, length, slice_index, slice_index_or}
use Rattle.search.specs.Components.{ReachableFrom}
use Rattle.search.specs.Reachable.{FoundBy}

-- the second node is in the list of the first one
abbrev pub Leads : List (List ℕ) → ℕ → ℕ → Type 0
Leads lists a b = Contains (get_or lists a []) b

-- edges lead to nodes
abbrev pub AreWithin : List (List ℕ) → Type 0
AreWithin lists = (a b : ℕ) → Leads lists a b → b < length lists

abbrev pub IsOn : List Bool → ℕ → Type 0
IsOn row t = IsTrue (slice_index_or row t false)

-- a bit for each of the first so many nodes, which says whether it is reachable from the node
pub record HasReached (lists : List (List ℕ)) (bound node : ℕ) (row : List Bool) : Type 0 where
  pub bits : length row ≡ bound
  pub each : (t : ℕ) → t < bound → IsOn row t ↔ ReachableFrom (Leads lists) node t

-- those of the bits that were found were turned on
pub record TurnsOn (Found : ℕ → Type 0) (old new : List Bool) : Type 0 where
  pub bits : length new ≡ length old
  pub each : (t : ℕ) → IsOn new t ↔ (IsOn old t ⊎ ((t < length old) × Found t))

-- the node is of a component that has a row, in which the bit is on
pub record IsInRow (numbers : List ℕ) (rows : List (List Bool)) (node t : ℕ) : Type 0 where
  pub earlier : slice_index numbers node < length rows
  pub on : IsOn (get_or rows (slice_index numbers node) []) t

-- this is the node itself, or the node leads to one that has it in its row
abbrev pub Shows : List (List ℕ) → List ℕ → List (List Bool) → ℕ → ℕ → Type 0
Shows lists numbers rows node t = (node ≡ t) ⊎ FoundBy (IsInRow numbers rows) (get_or lists node []) t
