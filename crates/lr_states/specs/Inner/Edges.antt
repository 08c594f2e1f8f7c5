-- The edges between nodes, by their numbers, as they are made: by productions, and by the items after each symbol that leads from a state.
use Rattle.std.specs.Prelude.{◌≡◌, ◌↔◌, ◌⊎◌, ◌<◌, ◌≤◌, ◌+◌, ◌-◌, ℕ, Bool, List, [], ◌∷◌, Option, None, Some, IsTrue, cond, drop, false, get_or, length, nat_lt, slice_get, slice_index_or}
use Rattle.cfgrammar.specs.Grammar.{Grammar, Sym}
use Rattle.cfgrammar.specs.Derivation.{Derives}
use Rattle.cfgrammar.specs.Firsts.{AreFirsts, FirstSets}
use Rattle.cfgrammar.specs.Numbered.{core}
use Rattle.cfgrammar.specs.Openings.{nth_production}
use Rattle.lr_states.specs.declared.Item.{Item}
use Rattle.lr_states.specs.declared.kernels.Target.{Target}
use Rattle.lr_states.specs.declared.lookaheads.edges.Graph.{Graph}
use Rattle.lr_states.specs.Automaton.{Automaton}
use Rattle.lr_states.specs.Viable.{HasNext, IsUsed, item_at}
use Rattle.lr_states.specs.Lookaheads.{HasUsed}
use Rattle.lr_states.specs.Inner.Graph.{item_after, next, unread_of}
use Rattle.lr_states.specs.Inner.Reached.{Leads}
use Rattle.lr_states.specs.Inner.Numbers.{AreReady, Numbers, block_of, item_number, number, numbers_of, rest_number, shown_number}

-- these edges are there too now, and nothing else changed
pub record AddsEdges (Found : ℕ → ℕ → Type 0) (old new : List (List ℕ)) : Type 0 where
  pub shape : length new ≡ length old
  pub edges : (a b : ℕ) → Leads new a b ↔ (Leads old a b ⊎ Found a b)

-- one of the first so many things finds the edge
pub record Below (Finds : ℕ → ℕ → ℕ → Type 0) (n a b : ℕ) : Type 0 where
  pub index : ℕ
  pub below : index < n
  pub finds : Finds index a b

module _ (g : Grammar) (Used : ℕ → Type 0) (n : Numbers) (x : Automaton) where
  -- an edge from what isn't read of an item to its next symbol, and to what comes after that if it is nullable
  pub data RestEdge (item : Item) (symbol : Sym) (a b : ℕ) : Type 0 where
    shows : a ≡ rest_number n item → b ≡ shown_number n symbol → RestEdge item symbol a b
    skips : Derives (HasUsed g Used) (symbol ∷ []) [] → a ≡ rest_number n item → b ≡ rest_number n (item_after item) → RestEdge item symbol a b

  -- such an edge by the symbol with this index
  pub record SymbolEdge (p index a b : ℕ) : Type 0 where
    pub symbol : Sym
    pub at : HasNext g (item_at p index) symbol
    pub edge : RestEdge (item_at p index) symbol a b

  -- an edge from a rule to its production
  abbrev pub BeginEdge : ℕ → ℕ → ℕ → Type 0
  BeginEdge p a b = (a ≡ n.tokens + (nth_production g p).rule) × (b ≡ rest_number n (item_at p 0))

  -- an edge by a used production
  pub record ProductionEdge (p a b : ℕ) : Type 0 where
    pub used : Used p
    pub edge : BeginEdge p a b ⊎ Below (SymbolEdge p) (length (nth_production g p).symbols) a b

  -- the node of an item of a state before the last symbol was read
  abbrev pub before_number : ℕ → Item → ℕ
  before_number q item = item_number n x q (item_at item.production (item.read - 1))

  -- an edge by an item before its last symbol was read: from the item after that, which has this node, and from the symbol if it is a rule,
  -- which then has that node
  pub data ItemEdge (q : ℕ) (item : Item) (after : ℕ) (rule : Option ℕ) (a b : ℕ) : Type 0 where
    back : a ≡ after → b ≡ before_number q item → ItemEdge q item after rule a b
    comes : (node : ℕ) → rule ≡ Some node → a ≡ node → b ≡ rest_number n item → ItemEdge q item after rule a b
    ends : (node : ℕ) → rule ≡ Some node → Derives (HasUsed g Used) (unread_of g item) [] → a ≡ node → b ≡ before_number q item → ItemEdge q item after rule a b

  -- the node of the rule that a target is for
  abbrev pub rule_at : ℕ → ℕ → Target → Option ℕ
  rule_at q place target = cond (nat_lt target.symbol n.rules) (Some ((block_of n q).rules + place)) None

  -- an edge by one of the items with symbols read of a target's state
  pub record KernelEdge (q place : ℕ) (target : Target) (index a b : ℕ) : Type 0 where
    pub item : Item
    pub is : slice_get (get_or x.states target.state []) index ≡ Some item
    pub some : 0 < item.read
    pub edge : ItemEdge q item ((block_of n target.state).items + index) (rule_at q place target) a b

  -- an edge by a target of a state
  pub record TargetEdge (q place a b : ℕ) : Type 0 where
    pub target : Target
    pub at : slice_get (get_or x.targets q []) place ≡ Some target
    pub index : ℕ
    pub edge : KernelEdge q place target index a b

  -- an edge by one of the targets of a state
  abbrev pub StateEdge : ℕ → ℕ → ℕ → Type 0
  StateEdge q a b = Below (TargetEdge q) (length (get_or x.targets q [])) a b

  pub record EndEdge (a b : ℕ) : Type 0 where
    pub some : 0 < length x.states
    pub source : a ≡ number n x (next 0 0)
    pub target : b + 1 ≡ g.tokens

  -- all edges
  pub data IsEdge (a b : ℕ) : Type 0 where
    at_end : EndEdge a b → IsEdge a b
    by_production : (p : ℕ) → p < length g.productions → ProductionEdge p a b → IsEdge a b
    by_target : (q place : ℕ) → q < length x.states → TargetEdge q place a b → IsEdge a b

-- from this index on all symbols are nullable, and from none before it
abbrev pub IsNullableFrom : Grammar → List Sym → ℕ → Type 0
IsNullableFrom g symbols from = (i : ℕ) → (from ≤ i) ↔ Derives (HasUsed g (IsUsed g)) (drop i symbols) []

-- such an index for each production
pub record AreNullableFrom (g : Grammar) (from : List ℕ) : Type 0 where
  pub count : length from ≡ length g.productions
  pub each : (p : ℕ) → p < length g.productions → IsNullableFrom g (nth_production g p).symbols (get_or from p 0)

-- what edges are made from
pub record IsGraph (g : Grammar) (x : Automaton) (n : Numbers) (sets : FirstSets) (from : List ℕ) (bits : List Bool) : Type 0 where
  pub ready : AreReady g x n
  pub firsts : AreFirsts g sets
  pub nullable_from : AreNullableFrom g from
  pub used : (p : ℕ) → IsTrue (slice_index_or bits p false) ↔ IsUsed g p

-- what is said of a grammar, of its used productions, and of numbers and states, where edges are made from these
abbrev pub in_graph : {A : Type 1} → ((g : Grammar) → (ℕ → Type 0) → Numbers → Automaton → A) → Graph → A
in_graph says x = says (core x.grammar.now) (IsUsed (core x.grammar.now)) (numbers_of x.nodes.now) x.states.now

abbrev pub rule_in : Graph → ℕ → ℕ → Target → Option ℕ
rule_in x = rule_at (core x.grammar.now) (IsUsed (core x.grammar.now)) (numbers_of x.nodes.now) x.states.now

abbrev pub IsMadeFrom : Graph → Type 0
IsMadeFrom x = IsGraph (core x.grammar.now) x.states.now (numbers_of x.nodes.now) x.firsts.now x.nullable_from.now x.used.now
