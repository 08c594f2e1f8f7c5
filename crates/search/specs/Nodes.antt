-- Things as the nodes of a search.
use Rattle.std.specs.Prelude.{◌↔◌, ℕ}
use Rattle.search.specs.Reachable.{IsReachableIn, Reachable, SearchState}

module _ {A : Type 0} (IsNodeOf : A → ℕ → Type 0) (Leads : A → A → Type 0) where
  -- a node leads to another if its thing leads to that of the other
  pub record IsEdge (node other : ℕ) : Type 0 where
    pub from : A
    pub there : IsNodeOf from node
    pub to : A
    pub leads : Leads from to
    pub is : IsNodeOf to other

  -- the search has reached exactly the nodes of what is reachable from the seeds
  abbrev pub Knows : (A → Type 0) → SearchState → Type 0
  Knows Seed x = (thing : A) (node : ℕ) → IsNodeOf thing node → (IsReachableIn x node ↔ Reachable Seed Leads thing)
