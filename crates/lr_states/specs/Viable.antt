-- Viable prefixes and the items that are valid for them, as in Aho, Lam, Sethi and Ullman, Compilers, section 4.6.5.
use Rattle.std.specs.Prelude.{◌≡◌, ◌↔◌, ◌⊎◌, ◌<◌, ◌≤◌, ℕ, List, [], ◌∷◌, ◌++◌, Some, Contains, get_or, length, slice_get, take}
use Rattle.cfgrammar.specs.Grammar.{Grammar, HasProduction, Sym, Rule}
use Rattle.cfgrammar.specs.Openings.{nth_production}
use Rattle.cfgrammar.specs.Productive.{Productive}
use Rattle.lr_states.specs.declared.Item.{Item}

-- each rule in the production with this number has a sentence
pub record IsUsed (g : Grammar) (p : ℕ) : Type 0 where
  pub within : p < length g.productions
  pub productive : (r : ℕ) → Contains (nth_production g p).symbols (Rule r) → Productive (HasProduction g) r

-- Some derivation from the start rule has the symbols `before`, the rule, and then `after`. At each of its steps a rule was replaced by the
-- symbols of a used production; those before the next such rule are read to the end, and nothing of those after it is replaced.
pub data Spine (g : Grammar) (Used : ℕ → Type 0) : List Sym → ℕ → List Sym → Type 0 where
  start : Spine g Used [] 0 []
  inner : {before after : List Sym} {owner : ℕ} → Spine g Used before owner after → (p : ℕ) → Used p → (nth_production g p).rule ≡ owner
      → (read rest : List Sym) (rule : ℕ) → (nth_production g p).symbols ≡ read ++ Rule rule ∷ rest
      → Spine g Used (before ++ read) rule (rest ++ after)

abbrev pub item_at : ℕ → ℕ → Item
item_at p i = record { production = p; read = i }

-- the item's next symbol is this one
abbrev pub HasNext : Grammar → Item → Sym → Type 0
HasNext g item symbol = slice_get (nth_production g item.production).symbols item.read ≡ Some symbol

-- the item is valid for the prefix: it may be what a parser is at after reading the prefix
pub record IsValid (g : Grammar) (Used : ℕ → Type 0) (prefix : List Sym) (item : Item) : Type 0 where
  pub before : List Sym
  pub after : List Sym
  pub spine : Spine g Used before (nth_production g item.production).rule after
  pub used : Used item.production
  pub read : item.read ≤ length (nth_production g item.production).symbols
  pub is : prefix ≡ before ++ take item.read (nth_production g item.production).symbols

-- some item is valid for the prefix
pub record IsViable (g : Grammar) (Used : ℕ → Type 0) (prefix : List Sym) : Type 0 where
  pub item : Item
  pub is : IsValid g Used prefix item

-- the items are those that are valid for the prefix
abbrev pub IsStateOf : (g : Grammar) → (ℕ → Type 0) → List Sym → List Item → Type 0
IsStateOf g Used prefix items = (item : Item) → Contains items item ↔ IsValid g Used prefix item

-- Items are in the order of how much of them is read, those with most first, and then in that of their productions.
abbrev pub IsBefore : Item → Item → Type 0
IsBefore a b = (b.read < a.read) ⊎ ((a.read ≡ b.read) × (a.production < b.production))

abbrev pub AreSorted : List Item → Type 0
AreSorted [] = Unit {0}
AreSorted (x ∷ xs) = ((y : Item) → Contains xs y → IsBefore x y) × AreSorted xs

-- Each viable prefix has one of the states, each of the states is that of some viable prefix, and no two of them are the same. That of
-- the empty prefix is the first.
pub record AreStates (g : Grammar) (Used : ℕ → Type 0) (states : List (List Item)) : Type 0 where
  pub each : (prefix : List Sym) → IsViable g Used prefix → (q : ℕ) × (q < length states) × IsStateOf g Used prefix (get_or states q [])
  pub only : (q : ℕ) → q < length states → (prefix : List Sym) × IsViable g Used prefix × IsStateOf g Used prefix (get_or states q [])
  pub distinct : (q r : ℕ) → q < length states → r < length states
      → ((item : Item) → Contains (get_or states q []) item ↔ Contains (get_or states r []) item) → q ≡ r
  pub first : 0 < length states → IsStateOf g Used [] (get_or states 0 [])
  pub sorted : (q : ℕ) → q < length states → AreSorted (get_or states q [])
