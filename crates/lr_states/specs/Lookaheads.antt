-- The tokens that may come where an LALR(1) parser reduces, as in DeRemer and Pennello, Efficient computation of LALR(1) look-ahead sets, 1982.
use Rattle.std.specs.Prelude.{◌≡◌, ◌↔◌, ◌==◌, ◌&&◌, ◌+◌, ◌<◌, ◌≤◌, ℕ, Bool, false, List, [], ◌∷◌, ◌++◌, Contains, IsTrue, get_or, length, slice_index_or, take}
use Rattle.std.specs.List.{position_or_len}
use Rattle.cfgrammar.specs.Grammar.{Grammar, Sym, Token}
use Rattle.cfgrammar.specs.Derivation.{Derives}
use Rattle.cfgrammar.specs.Openings.{nth_production}
use Rattle.lr_states.specs.declared.Item.{Item}
use Rattle.lr_states.specs.Automaton.{Automaton}
use Rattle.lr_states.specs.Viable.{IsStateOf, Spine}

-- a used production of the rule has these symbols
pub record HasUsed (g : Grammar) (Used : ℕ → Type 0) (rule : ℕ) (symbols : List Sym) : Type 0 where
  pub index : ℕ
  pub used : Used index
  pub owner : (nth_production g index).rule ≡ rule
  pub is : (nth_production g index).symbols ≡ symbols

-- this symbol comes after nullable ones
pub record Shows (g : Grammar) (Used : ℕ → Type 0) (symbols : List Sym) (x : Sym) : Type 0 where
  pub before : List Sym
  pub after : List Sym
  pub nullable : Derives (HasUsed g Used) before []
  pub is : symbols ≡ before ++ x ∷ after

-- by used productions the symbols derive a list that begins with the token; or the empty list, and it is the end token
pub data MayBegin (g : Grammar) (Used : ℕ → Type 0) (symbols : List Sym) (t : ℕ) : Type 0 where
  begins : (rest : List Sym) → Derives (HasUsed g Used) symbols (Token t ∷ rest) → MayBegin g Used symbols t
  ends : Derives (HasUsed g Used) symbols [] → t + 1 ≡ g.tokens → MayBegin g Used symbols t

-- the item is valid for some prefix of the state, by a derivation in which the token may come right after the item's production
pub record IsLookahead (g : Grammar) (Used : ℕ → Type 0) (items : List Item) (item : Item) (t : ℕ) : Type 0 where
  pub prefix : List Sym
  pub state : IsStateOf g Used prefix items
  pub before : List Sym
  pub after : List Sym
  pub spine : Spine g Used before (nth_production g item.production).rule after
  pub used : Used item.production
  pub read : item.read ≤ length (nth_production g item.production).symbols
  pub is : prefix ≡ before ++ take item.read (nth_production g item.production).symbols
  pub comes : MayBegin g Used after t

-- states, and for each of them and each of its items a bit for each token
pub record LookaheadTables : Type 0 where
  pub automaton : Automaton
  pub rows : List (List (List Bool))

abbrev pub is_item : Item → Item → Bool
is_item a b = (a.production == b.production) && (a.read == b.read)

-- the bits of an item of state q
abbrev pub tokens_of : LookaheadTables → ℕ → Item → List Bool
tokens_of x q item = get_or (get_or x.rows q []) (position_or_len (is_item item) (get_or x.automaton.states q [])) []

-- the bits of each item of each state are those of its lookaheads
abbrev pub AreLookaheads : (g : Grammar) → (ℕ → Type 0) → LookaheadTables → Type 0
AreLookaheads g Used x = (q : ℕ) → q < length x.automaton.states → (item : Item) → Contains (get_or x.automaton.states q []) item → (t : ℕ) → t < g.tokens
    → IsTrue (slice_index_or (tokens_of x q item) t false) ↔ IsLookahead g Used (get_or x.automaton.states q []) item t
