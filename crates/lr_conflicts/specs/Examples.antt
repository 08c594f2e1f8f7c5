-- Examples of conflicts: two lists that the start rule derives, and what a parser could do with each where it has read what leads to the
-- conflict's state.
use Rattle.std.specs.Prelude.{◌≡◌, ◌+◌, ℕ, List, [], ◌∷◌, ◌++◌, Option, None, Some, Contains, IsTrue, drop, map, take}
use Rattle.cfgrammar.specs.Grammar.{Grammar, Sym, Rule, Token}
use Rattle.cfgrammar.specs.Derivation.{Derives}
use Rattle.cfgrammar.specs.Numbered.{Numbered, core}
use Rattle.cfgrammar.specs.NumberedSymbols.{sym_of}
use Rattle.cfgrammar.specs.Openings.{nth_production}
use Rattle.lr_states.specs.Automaton.{AreGotos, Automaton}
use Rattle.lr_states.specs.Viable.{AreStates, IsStateOf, IsUsed}
use Rattle.lr_states.specs.declared.Item.{Item}
use Rattle.lr_states.specs.Lookaheads.{HasUsed}
use Rattle.cfgrammar.specs.Associativity.{Associativity}
use Rattle.lr_conflicts.specs.Clashes.{IsIn}
use Rattle.lr_conflicts.specs.Conflicts.{AreConflicts, ConflictTables, items_of, read_item}
use Rattle.lr_conflicts.specs.declared.Conflict.{Conflict}
use Rattle.lr_conflicts.specs.declared.clashes.Clash.{Clash}
use Rattle.lr_conflicts.specs.declared.examples.Example.{Example}
use Rattle.lr_conflicts.specs.declared.examples.Side.{Side}

-- what leads to the state, and what comes after that
abbrev pub prefix_of : Side → List Sym
prefix_of side = map (sym_of (λ s. s)) side.prefix.items

abbrev pub rest_of : Side → List Sym
rest_of side = map (sym_of (λ s. s)) side.rest.items

-- By used productions the start rule derives a list with the rule of the item's production. With the production in the place of the rule, it is
-- the prefix and the rest, and what is read of the production is the end of the prefix.
pub record IsSide (g : Grammar) (Used : ℕ → Type 0) (item : Item) (side : Side) : Type 0 where
  pub before : List Sym
  pub after : List Sym
  pub derived : Derives (HasUsed g Used) (Rule 0 ∷ []) (before ++ Rule (nth_production g item.production).rule ∷ after)
  pub used : Used item.production
  pub prefix : prefix_of side ≡ before ++ take item.read (nth_production g item.production).symbols
  pub rest : rest_of side ≡ drop item.read (nth_production g item.production).symbols ++ after

-- the token comes first; or nothing is there, and it is the end token
pub data BeginsAt (g : Grammar) (t : ℕ) (symbols : List Sym) : Type 0 where
  token : (rest : List Sym) → symbols ≡ Token t ∷ rest → BeginsAt g t symbols
  ends : symbols ≡ [] → t + 1 ≡ g.tokens → BeginsAt g t symbols

-- no production has the start rule, as in every grammar that is read from a text
abbrev pub IsStartApart : Grammar → Type 0
IsStartApart g = (p : ℕ) → Contains (nth_production g p).symbols (Rule 0) → ⊥

module _ (g : Numbered) (x : Automaton) where
  -- a side of the item whose prefix leads to the conflict's state
  pub record Shows (conflict : Conflict) (item : Item) (side : Side) : Type 0 where
    pub leads : IsStateOf (core g) (IsUsed (core g)) (prefix_of side) (items_of x conflict.state)
    pub is : IsSide (core g) (IsUsed (core g)) item side

  -- The two sides show the clash: in the one the production is read, and the token comes after it; in the other one so is the other
  -- production, or, with the same prefix, the token is next or the start rule is read.
  pub record IsExample (conflict : Conflict) (clash : Clash) (example : Example) : Type 0 where
    pub reduced : Shows conflict (read_item g clash.production) example.reduced
    pub comes : BeginsAt (core g) clash.token (rest_of example.reduced)
    pub other : Shows conflict clash.other example.other
    pub comes_too : (clash.other ≡ read_item g g.start_production → IsStartApart (core g)) → BeginsAt (core g) clash.token (rest_of example.other)
    pub together : IsTrue clash.shifts → prefix_of example.other ≡ prefix_of example.reduced

  -- an example of the clash in one of the conflicts; none only if it is in none of them
  abbrev pub IsExampleIn : List Conflict → Clash → Option Example → Type 0
  IsExampleIn conflicts clash None = (conflict : Conflict) → Contains conflicts conflict → IsIn g x conflict clash → ⊥
  IsExampleIn conflicts clash (Some example) =
      (conflict : Conflict) × Contains conflicts conflict × IsIn g x conflict clash × IsExample conflict clash example

-- the states and the conflicts are those of the grammar
pub record AreOf (g : Numbered) (x : ConflictTables) : Type 0 where
  pub levels : List Associativity
  pub states : AreStates (core g) (IsUsed (core g)) x.lookaheads.automaton.states
  pub gotos : AreGotos (core g) (IsUsed (core g)) x.lookaheads.automaton
  pub conflicts : AreConflicts g levels x.lookaheads.automaton x.conflicts
