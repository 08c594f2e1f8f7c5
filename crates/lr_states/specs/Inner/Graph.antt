-- Lookaheads as what is reachable in a graph: its nodes are what tokens may come after, or begin.
use Rattle.std.specs.Prelude.{◌≡◌, ◌==◌, ◌<◌, ◌+◌, ℕ, cond, List, [], ◌∷◌, Some, Contains, drop, get_or, length}
use Rattle.cfgrammar.specs.Grammar.{Grammar, Sym, Rule, Token}
use Rattle.cfgrammar.specs.Derivation.{Derives}
use Rattle.cfgrammar.specs.Openings.{nth_production}
use Rattle.lr_states.specs.declared.Item.{Item}
use Rattle.lr_states.specs.Viable.{HasNext, item_at}
use Rattle.lr_states.specs.Automaton.{Automaton, goto_of}
use Rattle.lr_states.specs.Lookaheads.{HasUsed}

-- a token; a rule, for what it begins with; an item, for what its symbols that aren't read begin with; and for what comes after them: an item
-- of a state with symbols read, by its production, and a rule that is next in a state
pub data Node : Type 0 where
  token : ℕ → Node
  begun : ℕ → Node
  rest : Item → Node
  read : ℕ → Item → Node
  next : ℕ → ℕ → Node

-- the node of an item of a state
abbrev pub node_at : Grammar → ℕ → Item → Node
node_at g q item = cond (item.read == 0) (next q (nth_production g item.production).rule) (read q item)

-- the node of a symbol that others begin with
abbrev pub shown : Sym → Node
shown (Rule r) = begun r
shown (Token t) = token t

-- what comes after the symbols that are read
abbrev pub unread_of : Grammar → Item → List Sym
unread_of g item = drop item.read (nth_production g item.production).symbols

-- the item with one symbol more read
abbrev pub item_after : Item → Item
item_after item = item_at item.production (item.read + 1)

-- the tokens of the second node are those of the first one too
pub data LeadsTo (g : Grammar) (Used : ℕ → Type 0) (x : Automaton) : Node → Node → Type 0 where
  begins : (p : ℕ) → Used p → LeadsTo g Used x (begun (nth_production g p).rule) (rest (item_at p 0))
  shows : (item : Item) → Used item.production → (symbol : Sym) → HasNext g item symbol → LeadsTo g Used x (rest item) (shown symbol)
  skips : (item : Item) → Used item.production → (symbol : Sym) → HasNext g item symbol → Derives (HasUsed g Used) (symbol ∷ []) []
      → LeadsTo g Used x (rest item) (rest (item_after item))
  comes : (q : ℕ) → q < length x.states → (item : Item) → Contains (get_or x.states q []) item → (rule : ℕ) → HasNext g item (Rule rule)
      → LeadsTo g Used x (next q rule) (rest (item_after item))
  ends : (q : ℕ) → q < length x.states → (item : Item) → Contains (get_or x.states q []) item → (rule : ℕ) → HasNext g item (Rule rule)
      → Derives (HasUsed g Used) (unread_of g (item_after item)) [] → LeadsTo g Used x (next q rule) (node_at g q item)
  back : (q : ℕ) → q < length x.states → (item : Item) → Contains (get_or x.states q []) item → (symbol : Sym) → HasNext g item symbol
      → (r : ℕ) → goto_of x q symbol ≡ Some r → LeadsTo g Used x (read r (item_after item)) (node_at g q item)
  finish : 0 < length x.states → (t : ℕ) → t + 1 ≡ g.tokens → LeadsTo g Used x (next 0 0) (token t)
