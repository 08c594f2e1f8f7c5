-- Things and their nodes: what is reachable among things is what is reachable among nodes.
use Rattle.std.proofs.Common.{◌≡◌, ◌↔◌, ℕ, subst}
use Rattle.search.specs.Nodes.{IsEdge, Knows}
use Rattle.search.specs.Reachable.{IsReachableIn, Reachable, SearchState, led, seed}

module _ {A : Type 0} (IsNodeOf : A → ℕ → Type 0) (Leads : A → A → Type 0) (Seed : A → Type 0) (one : (a b : A) (n : ℕ) → IsNodeOf a n → IsNodeOf b n → a ≡ b)
    (has : (a b : A) → Leads a b → (n : ℕ) × IsNodeOf a n) (Root : ℕ → Type 0) (roots : (n : ℕ) → (Root n ↔ ((a : A) × Seed a × IsNodeOf a n))) where
  thing_reached : {n : ℕ} → Reachable Root (IsEdge IsNodeOf Leads) n → (a : A) × IsNodeOf a n × Reachable Seed Leads a
  thing_reached (seed {a = n} h) = let (a, is, at) = (roots n).0 h in (a, at, seed is)
  thing_reached (led {a = m} r h) =
      let (a, at, reachable) = thing_reached r in
      (h.to, h.is, led (subst (Reachable Seed Leads) (one a h.from m at h.there) reachable) h.leads)

  node_reached : {a : A} → Reachable Seed Leads a → (n : ℕ) → IsNodeOf a n → Reachable Root (IsEdge IsNodeOf Leads) n
  node_reached (seed {a = a} is) n at = seed ((roots n).1 (a, is, at))
  node_reached (led {a = a} {b = b} r leads) n at =
      let (m, there) = has a b leads in
      led (node_reached r m there) (record { from = a; there = there; to = b; leads = leads; is = at })

  pub knows : (x : SearchState) → ((n : ℕ) → (IsReachableIn x n ↔ Reachable Root (IsEdge IsNodeOf Leads) n)) → Knows IsNodeOf Leads Seed x
  knows x found thing node at = (
    (λ h. let (a, is, reachable) = thing_reached ((found node).0 h) in subst (Reachable Seed Leads) (one a thing node is at) reachable),
    (λ h. (found node).1 (node_reached h node at)),
  )
