-- Lists of items that are added to others, each if it isn't there.
use Rattle.std.specs.Prelude.{◌≡◌, ◌<◌, ◌≤◌, ℕ, List, [], Contains, get_or, length, map}
use Rattle.cfgrammar.specs.Grammar.{Grammar}
use Rattle.lr_states.specs.Automaton.{AreAscending, Automaton}
use Rattle.lr_states.specs.Inner.Closure.{items_after}
use Rattle.lr_states.specs.declared.Item.{Item}
use Rattle.lr_states.specs.declared.kernels.Target.{Target}
use Rattle.lr_states.specs.declared.kernels.Visited.{Visited}

-- each new list was found; those that were there stay where they were
pub record Adds (Found : List Item → Type 0) (old new : List (List Item)) : Type 0 where
  pub longer : length old ≤ length new
  pub kept : (q : ℕ) → q < length old → get_or new q [] ≡ get_or old q []
  pub fresh : (q : ℕ) → length old ≤ q → q < length new → Found (get_or new q [])

-- the list is this one, and isn't empty
pub record IsOne (list other : List Item) : Type 0 where
  pub is : other ≡ list
  pub some : 0 < length other

-- the list is one of these, and isn't empty
pub record IsAmong (lists : ℕ → List Item) (list : List Item) : Type 0 where
  pub node : ℕ
  pub is : list ≡ lists node
  pub some : 0 < length list

-- the target's state has the items after its symbol, of which there are some
pub record IsTarget (lists : ℕ → List Item) (kernels : List (List Item)) (target : Target) : Type 0 where
  pub within : target.state < length kernels
  pub is : get_or kernels target.state [] ≡ lists target.symbol
  pub some : 0 < length (lists target.symbol)

-- the targets for all symbols after which there are items
pub record AreTargets (lists : ℕ → List Item) (kernels : List (List Item)) (targets : List Target) : Type 0 where
  pub sound : (target : Target) → Contains targets target → IsTarget lists kernels target
  pub all : (node : ℕ) → 0 < length (lists node) → (r : ℕ) × Contains targets (record { symbol = node; state = r })
  pub ascending : AreAscending targets

-- so it is for each state
pub record AreGoing (g : Grammar) (kernels states : List (List Item)) (targets : List (List Target)) : Type 0 where
  pub count : length targets ≡ length states
  pub each : (q : ℕ) → q < length states → AreTargets (items_after g (get_or states q [])) kernels (get_or targets q [])

-- visited states, and how many rules there are
abbrev pub automaton_of : ℕ → List Visited → Automaton
automaton_of rules visited = record { rules = rules; states = map (λ (v : Visited). v.items.items) visited; targets = map (λ (v : Visited). v.targets.items) visited }
