-- What a walk that finds components knows.
use Rattle.std.specs.Prelude.{◌≡◌, ℕ, ◌+◌, ◌*◌, ◌++◌, ◌<◌, ◌≤◌, ◌↔◌, Bool, true, false, List, [], ◌∷◌, Some, Contains, cond, get_or, length, map, nat_lt, slice_get, slice_index}
use Rattle.std.specs.List.{count_by}
use Rattle.search.specs.Components.{ReachableFrom}
use Rattle.search.specs.Reachable.{unsearched}
use Rattle.search.specs.declared.walk.Group.{Group}
use Rattle.search.specs.declared.walk.Known.{Known}
use Rattle.search.specs.declared.walk.Known.TheVariants.{New, Open, Settled}
use Rattle.search.specs.declared.walk.Pending.{Pending}
use Rattle.search.specs.declared.walk.Walk.{Walk}

abbrev pub known_of : List Known → ℕ → Known
known_of known node = get_or known node New

-- whether nothing is known of the node
abbrev pub is_new : Known → Bool
is_new New = true
is_new (Open index) = false
is_new (Settled number) = false

-- the number of the component of a settled node
abbrev pub number_of : Known → ℕ
number_of New = 0
number_of (Open index) = 0
number_of (Settled number) = number

-- what is known of a node once the path from this index on is the component with this number
abbrev pub settle : ℕ → ℕ → Known → Known
settle start number New = New
settle start number (Open index) = cond (nat_lt index start) (Open index) (Settled number)
settle start number (Settled other) = Settled other

abbrev pub IsSettled : List Known → ℕ → Type 0
IsSettled known node = (number : ℕ) × (known_of known node ≡ Settled number)

-- nodes are on the path where they are known to be
pub record IsPath (known : List Known) (path : List ℕ) : Type 0 where
  pub positions : (node index : ℕ) → known_of known node ≡ Open index → (index < length path) × (slice_index path index ≡ node)
  pub opened : (index : ℕ) → index < length path → known_of known (slice_index path index) ≡ Open index

-- each group begins after those before it, and so do its pending edges
abbrev pub AreRising : List Group → Type 0
AreRising groups = (i j : ℕ) (g h : Group) → slice_get groups i ≡ Some g → slice_get groups j ≡ Some h → i < j
    → (g.start < h.start) × (g.pending ≤ h.pending)

-- no group begins after the second index and no later than the first
abbrev pub IsNoLater : List Group → ℕ → ℕ → Type 0
IsNoLater groups i k = (g : Group) → Contains groups g → g.start ≤ i → g.start ≤ k

-- the last of some groups
pub record IsLast (groups : List Group) (last : Group) : Type 0 where
  pub rest : List Group
  pub is : groups ≡ rest ++ last ∷ []

-- an edge to this node that is to be followed from this index of the path
abbrev pub pending_from : ℕ → ℕ → Pending
pending_from index node = record { from = index; to = node }

-- edges from this index of the path to each node that such a node leads to, each of so many, were added
pub record AddsEdges (Leads : ℕ → Type 0) (nodes index : ℕ) (old new : List Pending) : Type 0 where
  pub targets : List ℕ
  pub is : new ≡ old ++ map (pending_from index) targets
  pub all : (node : ℕ) → Contains targets node ↔ Leads node
  pub within : (node : ℕ) → Leads node → node < nodes
  pub few : length targets ≤ nodes

-- An edge from this index of the path leads to this node. The node is settled, or on the path and in no later group, or the edge is pending
-- or in hand.
pub data IsFollowed (known : List Known) (groups : List Group) (pending hand : List Pending) (from to : ℕ) : Type 0 where
  settled : IsSettled known to → IsFollowed known groups pending hand from to
  joined : (index : ℕ) → known_of known to ≡ Open index → IsNoLater groups from index → IsFollowed known groups pending hand from to
  waits : Contains pending (record { from = from; to = to }) → IsFollowed known groups pending hand from to
  taken : Contains hand (record { from = from; to = to }) → IsFollowed known groups pending hand from to

-- the pending edge at this index is an edge of a node of the path, and of a group exactly if that group's pending edges begin there or before
pub record IsPending (Leads : ℕ → ℕ → Type 0) (nodes : ℕ) (path : List ℕ) (groups : List Group) (index : ℕ) (pending : Pending) : Type 0 where
  pub from : pending.from < length path
  pub leads : Leads (slice_index path pending.from) pending.to
  pub within : pending.to < nodes
  pub of : (g : Group) → Contains groups g → (g.pending ≤ index) ↔ (g.start ≤ pending.from)

-- settled nodes are in the components with the numbers that they have, of which there are so many
pub record AreNumbered (Leads : ℕ → ℕ → Type 0) (nodes : ℕ) (known : List Known) (count : ℕ) : Type 0 where
  pub entries : length known ≡ nodes
  pub below : (node number : ℕ) → known_of known node ≡ Settled number → number < count
  pub some : (number : ℕ) → number < count → (node : ℕ) × (known_of known node ≡ Settled number)
  pub closed : (a b : ℕ) → IsSettled known a → Leads a b → IsSettled known b
  pub same : (a b number : ℕ) → known_of known a ≡ Settled number → known_of known b ≡ Settled number → ReachableFrom Leads a b
  pub different : (a b number other : ℕ) → known_of known a ≡ Settled number → known_of known b ≡ Settled other → ReachableFrom Leads a b
      → ReachableFrom Leads b a → number ≡ other
  pub order : (a b number other : ℕ) → known_of known a ≡ Settled number → Leads a b → known_of known b ≡ Settled other → other ≤ number

-- what is known is true: settled nodes are in their components, and nodes of the path lead to those of the same group and of later ones
pub record AreKnown (Leads : ℕ → ℕ → Type 0) (nodes : ℕ) (known : List Known) (path : List ℕ) (groups : List Group) (pending : List Pending) (count : ℕ)
    (hand : List Pending) : Type 0 where
  pub numbered : AreNumbered Leads nodes known count
  pub on_path : IsPath known path
  pub within : (index : ℕ) → index < length path → slice_index path index < nodes
  pub rising : AreRising groups
  pub inside : (g : Group) → Contains groups g → (g.start < length path) × (g.pending ≤ length pending)
  pub first : 0 < length path → (g : Group) × Contains groups g × (g.start ≡ 0)
  pub chain : (i k : ℕ) → i < length path → k < length path → IsNoLater groups i k → ReachableFrom Leads (slice_index path i) (slice_index path k)
  pub followed : (i to : ℕ) → i < length path → Leads (slice_index path i) to → IsFollowed known groups pending hand i to
  pub left : (index : ℕ) (one : Pending) → slice_get pending index ≡ Some one → IsPending Leads nodes path groups index one
  pub bounded : count + length groups + count_by is_new known ≤ nodes

-- so it is of a walk through so many nodes
pub record IsWalk (Leads : ℕ → ℕ → Type 0) (nodes : ℕ) (x : Walk) (hand : List Pending) : Type 0 where
  pub are : AreKnown Leads nodes x.known.items x.path.items x.groups.items x.pending.items x.count hand
  pub targets : x.targets ≡ unsearched nodes

-- no node becomes new
abbrev pub NoneNew : List Known → List Known → Type 0
NoneNew old new = (node : ℕ) → known_of new node ≡ New → known_of old node ≡ New

-- each edge of a new node, each pending edge and each group is still to be looked at
abbrev pub left_to_look : ℕ → List Known → List Group → List Pending → ℕ
left_to_look nodes known groups pending = (nodes + 2) * count_by is_new known + length pending + length groups

abbrev pub left_to_walk : ℕ → Walk → ℕ
left_to_walk nodes x = left_to_look nodes x.known.items x.groups.items x.pending.items
