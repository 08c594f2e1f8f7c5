-- Where a grammar isn't LALR(1), after precedence has settled what it can, as Bison has it.
use Rattle.std.specs.Prelude.{◌≡◌, ◌↔◌, ◌⊎◌, ◌<◌, ◌+◌, ℕ, List, [], ◌∷◌, Some, Contains, IsTrue, get_or, length}
use Rattle.std.specs.List.Sorted.{IsStrictlyIncreasing}
use Rattle.search.specs.Reachable.{Reachable}
use Rattle.cfgrammar.specs.Associativity.{Associativity}
use Rattle.cfgrammar.specs.Grammar.{IsSymbolOf, Rule, Token}
use Rattle.cfgrammar.specs.Numbered.{Numbered, core}
use Rattle.cfgrammar.specs.Openings.{nth_production}
use Rattle.lr_states.specs.Automaton.{Automaton, goto_of}
use Rattle.lr_states.specs.Viable.{HasNext, IsUsed, item_at}
use Rattle.lr_states.specs.declared.Item.{Item}
use Rattle.lr_states.specs.Lookaheads.{IsLookahead, LookaheadTables}
use Rattle.lr_conflicts.specs.Precedences.{production_precedence, settled, token_precedence}
use Rattle.lr_conflicts.specs.declared.Conflict.{Conflict}
use Rattle.lr_conflicts.specs.declared.precedences.Settled.{Settled}
use Rattle.lr_conflicts.specs.declared.precedences.Settled.TheVariants.{Shift, Reduce, Neither}

-- the item with all symbols of this production read
abbrev pub read_item : Numbered → ℕ → Item
read_item g p = item_at p (length (nth_production (core g) p).symbols)

abbrev pub items_of : Automaton → ℕ → List Item
items_of x q = get_or x.states q []

-- in order of their states and tokens
abbrev pub IsBefore : Conflict → Conflict → Type 0
IsBefore a b = (a.state < b.state) ⊎ ((a.state ≡ b.state) × (a.token < b.token))

abbrev pub AreSorted : List Conflict → Type 0
AreSorted [] = Unit {0}
AreSorted (a ∷ rest) = ((b : Conflict) → Contains rest b → IsBefore a b) × AreSorted rest

module _ (g : Numbered) (levels : List Associativity) where
  -- in a state with these items, at this token
  module _ (items : List Item) (t : ℕ) where
    -- An item has the token next; or the start rule is read, and this is the end token: to shift it is to accept.
    pub data CanShift : Type 0 where
      next : (item : Item) → Contains items item → HasNext (core g) item (Token t) → CanShift
      accepts : Contains items (read_item g g.start_production) → t + 1 ≡ length g.tokens → CanShift

    -- the production is read, and the token may come after it
    pub record CanReduce (p : ℕ) : Type 0 where
      pub ours : p ≡ g.start_production → ⊥
      pub read : Contains items (read_item g p)
      pub comes : IsLookahead (core g) (IsUsed (core g)) items (read_item g p) t

    abbrev pub Settles : ℕ → Settled → Type 0
    Settles p verdict = settled levels (token_precedence g t) (production_precedence g p) ≡ Some verdict

    -- precedence takes the shift away, for the sake of this production
    pub record TakesShift (p : ℕ) : Type 0 where
      pub reduces : CanReduce p
      pub says : Settles p Reduce ⊎ Settles p Neither

    -- A shift that no production takes away is left.
    pub record IsShifted : Type 0 where
      pub shift : CanShift
      pub left : (p : ℕ) → TakesShift p → ⊥

    -- Precedence takes a production away from a shift that no earlier one has taken.
    pub record IsTakenAway (p : ℕ) : Type 0 where
      pub shift : CanShift
      pub earlier : (other : ℕ) → other < p → TakesShift other → ⊥
      pub says : Settles p Shift ⊎ Settles p Neither

    pub record IsReduced (p : ℕ) : Type 0 where
      pub reduces : CanReduce p
      pub left : IsTakenAway p → ⊥

    -- the shift and a production are left, or two productions are
    pub data IsTorn : Type 0 where
      shift_reduce : IsShifted → (p : ℕ) → IsReduced p → IsTorn
      reduce_reduce : (p other : ℕ) → p < other → IsReduced p → IsReduced other → IsTorn

  module _ (x : Automaton) where
    -- one symbol leads from state q to state r, and if it is a token, its shift is left
    pub data Goes (q r : ℕ) : Type 0 where
      rule : (s : ℕ) → IsSymbolOf (core g) (Rule s) → goto_of x q (Rule s) ≡ Some r → Goes q r
      token : (t : ℕ) → IsSymbolOf (core g) (Token t) → goto_of x q (Token t) ≡ Some r → IsShifted (items_of x q) t → Goes q r

    -- a parser that heeds precedences comes into the state
    pub record IsEntered (q : ℕ) : Type 0 where
      pub within : q < length x.states
      pub reachable : Reachable (λ n. n ≡ 0) Goes q

    -- what is left in the conflict's state at its token
    pub record IsConflict (conflict : Conflict) : Type 0 where
      pub entered : IsEntered conflict.state
      pub token : conflict.token < length g.tokens
      pub torn : IsTorn (items_of x conflict.state) conflict.token
      pub shifts : IsTrue conflict.shifts ↔ IsShifted (items_of x conflict.state) conflict.token
      pub reduced : (p : ℕ) → Contains conflict.productions.items p ↔ IsReduced (items_of x conflict.state) conflict.token p
      pub ascending : IsStrictlyIncreasing conflict.productions.items

    -- exactly the conflicts, in order of their states and tokens
    pub record AreConflicts (conflicts : List Conflict) : Type 0 where
      pub each : (conflict : Conflict) → Contains conflicts conflict → IsConflict conflict
      pub all : (q t : ℕ) → IsEntered q → t < length g.tokens → IsTorn (items_of x q) t
          → (conflict : Conflict) × Contains conflicts conflict × (conflict.state ≡ q) × (conflict.token ≡ t)
      pub sorted : AreSorted conflicts

-- states with their items' lookaheads, and conflicts
pub record ConflictTables : Type 0 where
  pub lookaheads : LookaheadTables
  pub conflicts : List Conflict
