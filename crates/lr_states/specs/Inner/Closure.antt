-- How items lead to items: productions that are entered, and symbols that are read.
use Rattle.std.specs.Prelude.{◌≡◌, ◌==◌, ◌↔◌, ◌⊎◌, ◌<◌, ◌+◌, ℕ, Bool, cond, false, List, [], ◌∷◌, Option, None, Some, Contains, IsTrue, slice_get, slice_index_or}
use Rattle.std.specs.BTreeSet.{BTreeSet, contains}
use Rattle.std.specs.List.{flat_map}
use Rattle.std.specs.Ordering.{nat_cmp}
use Rattle.search.specs.Reachable.{Reachable}
use Rattle.cfgrammar.specs.Grammar.{Grammar, Sym, Rule}
use Rattle.cfgrammar.specs.Openings.{nth_production}
use Rattle.lr_states.specs.Automaton.{symbol_number}
use Rattle.lr_states.specs.Viable.{AreSorted, HasNext, IsValid, item_at}
use Rattle.lr_states.specs.declared.Item.{Item}

-- the bit with this number is on
abbrev pub IsOn : List Bool → ℕ → Type 0
IsOn bits n = IsTrue (slice_index_or bits n false)

-- a used production of rule a begins with rule b
pub record Enters (g : Grammar) (Used : ℕ → Type 0) (a b : ℕ) : Type 0 where
  pub index : ℕ
  pub used : Used index
  pub owner : (nth_production g index).rule ≡ a
  pub begins : HasNext g (item_at index 0) (Rule b)

-- the production is used, and begins with the rule
pub record Begins (g : Grammar) (Used : ℕ → Type 0) (p rule : ℕ) : Type 0 where
  pub used : Used p
  pub begins : HasNext g (item_at p 0) (Rule rule)

-- the rules that are next in the items; if there are none, the start rule
pub data IsSeed (g : Grammar) (kernel : List Item) (rule : ℕ) : Type 0 where
  first : kernel ≡ [] → rule ≡ 0 → IsSeed g kernel rule
  next : (item : Item) → Contains kernel item → HasNext g item (Rule rule) → IsSeed g kernel rule

-- the item is a used production of which nothing is read, and its rule is reached from those that are next
pub record IsEntered (g : Grammar) (Used : ℕ → Type 0) (kernel : List Item) (item : Item) : Type 0 where
  pub unread : item.read ≡ 0
  pub used : Used item.production
  pub reached : Reachable (IsSeed g kernel) (Enters g Used) (nth_production g item.production).rule

-- all items of a state of which these are the items that have symbols read
pub record IsClosure (g : Grammar) (Used : ℕ → Type 0) (kernel items : List Item) : Type 0 where
  pub all : (item : Item) → Contains items item ↔ (Contains kernel item ⊎ IsEntered g Used kernel item)
  pub sorted : AreSorted kernel → ((item : Item) → Contains kernel item → 0 < item.read) → AreSorted items

-- the set has the number
abbrev pub IsIn : BTreeSet ℕ → ℕ → Type 0
IsIn set n = IsTrue (contains nat_cmp set n)

-- the numbers that were found are in the set, and no others beside those from before
abbrev pub AddsTo : (ℕ → Type 0) → BTreeSet ℕ → BTreeSet ℕ → Type 0
AddsTo Found old new = (n : ℕ) → IsIn new n ↔ (IsIn old n ⊎ Found n)

-- the number of a symbol
abbrev pub node_of : Grammar → Sym → ℕ
node_of g symbol = symbol_number g.rules symbol

-- the item after its next symbol is read, if that is the one of this number
abbrev pub step_at : Grammar → ℕ → Item → Option Sym → List Item
step_at g node item None = []
step_at g node item (Some symbol) = cond (node_of g symbol == node) (item_at item.production (item.read + 1) ∷ []) []

abbrev pub step_of : Grammar → ℕ → Item → List Item
step_of g node item = step_at g node item (slice_get (nth_production g item.production).symbols item.read)

-- the items after the symbol of this number is read
abbrev pub items_after : Grammar → List Item → ℕ → List Item
items_after g items node = flat_map (step_of g node) items

-- the item is one of the items, after its next symbol, of this number, is read
pub record IsAdvanced (g : Grammar) (items : List Item) (node : ℕ) (item : Item) : Type 0 where
  pub read : ℕ
  pub is : item.read ≡ read + 1
  pub from : Contains items (item_at item.production read)
  pub symbol : Sym
  pub next : HasNext g (item_at item.production read) symbol
  pub at : node_of g symbol ≡ node

pub record AreAdvanced (g : Grammar) (items : List Item) (node : ℕ) (kernel : List Item) : Type 0 where
  pub all : (item : Item) → Contains kernel item ↔ IsAdvanced g items node item
  pub sorted : AreSorted items → AreSorted kernel

-- the items with symbols read that are valid for the prefix; only for the empty prefix there are none
pub record IsKernelOf (g : Grammar) (Used : ℕ → Type 0) (prefix : List Sym) (kernel : List Item) : Type 0 where
  pub all : (item : Item) → Contains kernel item ↔ ((0 < item.read) × IsValid g Used prefix item)
  pub empty : kernel ≡ [] → prefix ≡ []
  pub sorted : AreSorted kernel
