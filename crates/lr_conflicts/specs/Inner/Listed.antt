-- Conflicts that were found so far.
use Rattle.std.specs.Prelude.{◌≡◌, ◌↔◌, ◌⊎◌, ◌<◌, ℕ, List, Contains, length}
use Rattle.std.specs.List.Sorted.{IsStrictlyIncreasing}
use Rattle.cfgrammar.specs.Associativity.{Associativity}
use Rattle.cfgrammar.specs.Numbered.{Numbered}
use Rattle.lr_states.specs.Automaton.{Automaton}
use Rattle.lr_states.specs.declared.Item.{Item}
use Rattle.lr_conflicts.specs.Conflicts.{AreSorted, IsConflict, IsEntered, IsReduced, IsTorn, items_of}
use Rattle.lr_conflicts.specs.declared.Conflict.{Conflict}

module _ (g : Numbered) (levels : List Associativity) where
  -- the productions that are reduced at the token, in ascending order
  pub record AreReduced (items : List Item) (t : ℕ) (productions : List ℕ) : Type 0 where
    pub all : (p : ℕ) → Contains productions p ↔ IsReduced g levels items t p
    pub ascending : IsStrictlyIncreasing productions

  module _ (x : Automaton) where
    -- a state before q, or state q and a token before t
    abbrev pub IsEarlier : ℕ → ℕ → ℕ → ℕ → Type 0
    IsEarlier q t state token = (state < q) ⊎ ((state ≡ q) × (token < t))

    -- the conflicts of states and tokens before these
    pub record AreListed (q t : ℕ) (conflicts : List Conflict) : Type 0 where
      pub each : (conflict : Conflict) → Contains conflicts conflict → IsConflict g levels x conflict
      pub early : (conflict : Conflict) → Contains conflicts conflict → IsEarlier q t conflict.state conflict.token
      pub all : (a b : ℕ) → IsEarlier q t a b → IsEntered g levels x a → b < length g.tokens → IsTorn g levels (items_of x a) b
          → (conflict : Conflict) × Contains conflicts conflict × (conflict.state ≡ a) × (conflict.token ≡ b)
      pub sorted : AreSorted conflicts
