-- The states of viable prefixes, and the states that symbols lead to from them.
use Rattle.std.specs.Prelude.{◌≡◌, ◌==◌, ◌<◌, ◌+◌, ℕ, List, [], ◌∷◌, ◌++◌, Option, None, Some, Contains, cond, get_or, length}
use Rattle.cfgrammar.specs.Grammar.{Grammar, IsSymbolOf, Sym, Rule, Token}
use Rattle.lr_states.specs.declared.Item.{Item}
use Rattle.lr_states.specs.declared.kernels.Target.{Target}
use Rattle.lr_states.specs.Viable.{IsStateOf, IsViable}

-- symbols as numbers: so many rules, and after them the tokens
abbrev pub symbol_number : ℕ → Sym → ℕ
symbol_number rules (Rule r) = r
symbol_number rules (Token t) = rules + t

-- states by their items, for each of them the states that symbols lead to, and how many rules there are
pub record Automaton : Type 0 where
  pub rules : ℕ
  pub states : List (List Item)
  pub targets : List (List Target)

-- the state of the first target for the symbol with this number
abbrev pub target_of : List Target → ℕ → Option ℕ
target_of [] number = None
target_of (target ∷ targets) number = cond (target.symbol == number) (Some target.state) (target_of targets number)

abbrev pub goto_of : Automaton → ℕ → Sym → Option ℕ
goto_of x q symbol = target_of (get_or x.targets q []) (symbol_number x.rules symbol)

-- the state of the prefixes of state q with one symbol more, if these are viable
abbrev pub IsGoto : (g : Grammar) → (ℕ → Type 0) → List (List Item) → ℕ → Sym → Option ℕ → Type 0
IsGoto g Used states q symbol None = (prefix : List Sym) → IsStateOf g Used prefix (get_or states q []) → IsViable g Used (prefix ++ symbol ∷ []) → ⊥
IsGoto g Used states q symbol (Some r) = (r < length states)
    × ((prefix : List Sym) → IsStateOf g Used prefix (get_or states q []) → IsStateOf g Used (prefix ++ symbol ∷ []) (get_or states r []))

abbrev pub AreGotos : (g : Grammar) → (ℕ → Type 0) → Automaton → Type 0
AreGotos g Used x = (q : ℕ) → q < length x.states → (symbol : Sym) → IsSymbolOf g symbol → IsGoto g Used x.states q symbol (goto_of x q symbol)

-- Targets are in ascending order of their symbols.
abbrev pub AreAscending : List Target → Type 0
AreAscending [] = Unit {0}
AreAscending (target ∷ targets) = ((other : Target) → Contains targets other → target.symbol < other.symbol) × AreAscending targets

-- the targets of each state are for symbols of the grammar, in ascending order
pub record HaveTargets (g : Grammar) (x : Automaton) : Type 0 where
  pub rules : x.rules ≡ g.rules
  pub count : length x.targets ≡ length x.states
  pub symbols : (q : ℕ) → q < length x.states → (target : Target) → Contains (get_or x.targets q []) target
      → (symbol : Sym) × IsSymbolOf g symbol × (symbol_number g.rules symbol ≡ target.symbol)
  pub ascending : (q : ℕ) → q < length x.states → AreAscending (get_or x.targets q [])
