-- The numbers of nodes.
use Rattle.std.specs.Prelude.{◌≡◌, ◌==◌, ◌&&◌, ◌||◌, ◌↔◌, ◌<◌, ◌≤◌, ◌+◌, ℕ, Bool, cond, nat_lt, List, [], Option, None, Some, Contains, get_or, length, map, position, slice_get}
use Rattle.std.specs.List.{position_or_len, range_with_len}
use Rattle.cfgrammar.specs.Grammar.{Grammar, IsGrammar, Sym, Rule, Token}
use Rattle.cfgrammar.specs.Openings.{nth_production}
use Rattle.lr_states.specs.declared.Item.{Item}
use Rattle.lr_states.specs.declared.kernels.Target.{Target}
use Rattle.lr_states.specs.Automaton.{AreGotos, Automaton, HaveTargets}
use Rattle.lr_states.specs.Viable.{AreStates, IsUsed}
use Rattle.lr_states.specs.Lookaheads.{is_item}
use Rattle.lr_states.specs.declared.lookaheads.nodes.Block.{Block}
use Rattle.lr_states.specs.declared.lookaheads.nodes.Nodes.{Nodes}
use Rattle.lr_states.specs.Inner.Graph.{Node, begun, next, read, rest, token}

-- how many tokens and rules there are; for each production its rule and its first node; for each state its nodes; and how many nodes there are
pub record Numbers : Type 0 where
  pub tokens : ℕ
  pub rules : ℕ
  pub owners : List ℕ
  pub rests : List ℕ
  pub blocks : List Block
  pub len : ℕ

abbrev pub numbers_of : Nodes → Numbers
numbers_of x = record { tokens = x.tokens; rules = x.rules; owners = x.owners.items; rests = x.rests.items; blocks = x.blocks.items; len = x.len }

abbrev pub nth_block : List Block → ℕ → Block
nth_block blocks q = get_or blocks q (record { items = 0; rules = 0; end = 0 })

abbrev pub block_of : Numbers → ℕ → Block
block_of n q = nth_block n.blocks q

-- the index of the item
abbrev pub place_of_item : List Item → Item → ℕ
place_of_item items item = position_or_len (is_item item) items

-- items in the order of a state
abbrev pub is_before : Item → Item → Bool
is_before a b = nat_lt b.read a.read || ((a.read == b.read) && nat_lt a.production b.production)

-- the index of the target for the symbol with this number
abbrev pub place_of_symbol : List Target → ℕ → Option ℕ
place_of_symbol targets symbol = position (λ target. target.symbol == symbol) targets

abbrev pub at_place : ℕ → ℕ → Option ℕ → ℕ
at_place other first None = other
at_place other first (Some place) = first + place

abbrev pub next_number : Numbers → Automaton → ℕ → ℕ → ℕ
next_number n x q rule = at_place (n.tokens + n.rules) (block_of n q).rules (place_of_symbol (get_or x.targets q []) rule)

-- the number of a symbol's node
abbrev pub shown_number : Numbers → Sym → ℕ
shown_number n (Rule r) = n.tokens + r
shown_number n (Token t) = t

-- the number of the node for the symbols of an item that aren't read
abbrev pub rest_number : Numbers → Item → ℕ
rest_number n item = get_or n.rests item.production 0 + item.read

-- the number of an item's node
abbrev pub item_number : Numbers → Automaton → ℕ → Item → ℕ
item_number n x q item = cond (item.read == 0) (next_number n x q (get_or n.owners item.production 0))
    ((block_of n q).items + place_of_item (get_or x.states q []) item)

abbrev pub number : Numbers → Automaton → Node → ℕ
number n x (token t) = t
number n x (begun r) = n.tokens + r
number n x (rest item) = rest_number n item
number n x (read q item) = (block_of n q).items + place_of_item (get_or x.states q []) item
number n x (next q rule) = next_number n x q rule

-- the rule is next in a state, or it is the start rule in the first state
pub data IsNext (x : Automaton) (q rule : ℕ) : Type 0 where
  by_target : (target : Target) → Contains (get_or x.targets q []) target → target.symbol ≡ rule → IsNext x q rule
  at_start : q ≡ 0 → rule ≡ 0 → IsNext x q rule

-- the node has a number
abbrev pub IsNode : Grammar → Automaton → Node → Type 0
IsNode g x (token t) = t < g.tokens
IsNode g x (begun r) = r < g.rules
IsNode g x (rest item) = (item.production < length g.productions) × (item.read ≤ length (nth_production g item.production).symbols)
IsNode g x (read q item) = (q < length x.states) × (0 < item.read) × Contains (get_or x.states q []) item
IsNode g x (next q rule) = (q < length x.states) × (rule < g.rules) × IsNext x q rule

-- for each production its first node, from this one on, and then the first one after all: a production has a node for each of its symbols, and one
-- for none of them
pub record AreRests (g : Grammar) (from : ℕ) (rests : List ℕ) : Type 0 where
  pub count : length rests ≡ length g.productions + 1
  pub first : get_or rests 0 0 ≡ from
  pub each : (p : ℕ) → p < length g.productions → get_or rests (p + 1) 0 ≡ get_or rests p 0 + length (nth_production g p).symbols + 1

-- the nodes of a state with these items and targets: of the items with symbols read, which are the first ones, and of the targets for rules
pub record IsBlock (rules : ℕ) (items : List Item) (targets : List Target) (block : Block) : Type 0 where
  pub first : block.items ≤ block.rules
  pub within : block.rules ≤ block.items + length items
  pub reads : (i : ℕ) (item : Item) → slice_get items i ≡ Some item → (0 < item.read) ↔ (block.items + i < block.rules)
  pub last : block.rules ≤ block.end
  pub nexts : (i : ℕ) (target : Target) → slice_get targets i ≡ Some target → target.symbol < rules → block.rules + i < block.end

-- such nodes of the first states, one state's after the other's, from this one up to that
pub record AreBlocks (rules : ℕ) (x : Automaton) (from : ℕ) (blocks : List Block) (to : ℕ) : Type 0 where
  pub upto : from ≤ to
  pub each : (q : ℕ) → q < length blocks → IsBlock rules (get_or x.states q []) (get_or x.targets q []) (nth_block blocks q)
  pub after : (q : ℕ) → q < length blocks → from ≤ (nth_block blocks q).items
  pub order : (q r : ℕ) → q < r → r < length blocks → (nth_block blocks q).end ≤ (nth_block blocks r).items
  pub before : (q : ℕ) → q < length blocks → (nth_block blocks q).end ≤ to

-- the numbers for the states of a grammar
pub record AreNumbers (g : Grammar) (x : Automaton) (n : Numbers) : Type 0 where
  pub tokens : n.tokens ≡ g.tokens
  pub rules : n.rules ≡ g.rules
  pub productions : length n.owners ≡ length g.productions
  pub owners : (p : ℕ) → p < length g.productions → get_or n.owners p 0 ≡ (nth_production g p).rule
  pub rests : AreRests g (n.tokens + n.rules + 1) n.rests
  pub states : length n.blocks ≡ length x.states
  pub blocks : AreBlocks g.rules x (get_or n.rests (length g.productions) 0) n.blocks n.len

-- the states and the numbers of their nodes are those of the grammar
pub record AreReady (g : Grammar) (x : Automaton) (n : Numbers) : Type 0 where
  pub grammar : IsGrammar g
  pub states : AreStates g (IsUsed g) x.states
  pub gotos : AreGotos g (IsUsed g) x
  pub targets : HaveTargets g x
  pub numbers : AreNumbers g x n

-- so they are for some grammar
abbrev pub AreOfGrammar : Automaton → Numbers → Type 0
AreOfGrammar x n = (g : Grammar) × AreReady g x n

-- for each state, the rows of its items, by those of nodes
abbrev pub rows_of : Numbers → Automaton → List (List Bool) → List (List (List Bool))
rows_of n x rows = map (λ q. map (λ item. get_or rows (item_number n x q item) []) (get_or x.states q [])) (range_with_len 0 (length x.states))
