-- The symbols of a grammar as the nodes of a search, and what searches find.
use Rattle.std.specs.Prelude.{◌≡◌, ◌↔◌, ℕ, ◌+◌, Bool, true, false, List, length}
use Rattle.search.specs.Nodes.{IsEdge}
use Rattle.search.specs.Reachable.{FoundBy, IsReachableIn, SearchState}
use Rattle.cfgrammar.specs.Grammar.{HasProduction, IsSymbolOf, Sym, Rule, Token}
use Rattle.cfgrammar.specs.Numbered.{Numbered, core}
use Rattle.cfgrammar.specs.Openings.{nth_production}
use Rattle.cfgrammar.specs.Uses.{IsUsable}
use Rattle.cfgfindings.specs.Inner.Unproductive.{UnproductiveOrNot}
use Rattle.cfgfindings.specs.Useless.{IsReachable, Leads}

-- how many rules and tokens there are
abbrev pub nodes : Numbered → ℕ
nodes g = length g.rules + length g.tokens

-- the rules by their numbers, and after them the tokens
abbrev pub node_of : Numbered → Sym → ℕ
node_of g (Rule r) = r
node_of g (Token t) = length g.rules + t

abbrev pub IsNodeOf : Numbered → Sym → ℕ → Type 0
IsNodeOf g symbol node = IsSymbolOf (core g) symbol × (node_of g symbol ≡ node)

-- the productions that a search follows: all of them, or only those that are usable
abbrev pub IsFollowed : Numbered → Bool → ℕ → List Sym → Type 0
IsFollowed g true = IsUsable (HasProduction (core g))
IsFollowed g false = HasProduction (core g)

-- the search follows the production with this number
abbrev pub IsFollowedAt : Numbered → Bool → ℕ → Type 0
IsFollowedAt g only_usable p = IsFollowed g only_usable (nth_production (core g) p).rule (nth_production (core g) p).symbols

-- and a symbol in it has this node
pub record RefersAt (g : Numbered) (only_usable : Bool) (p node : ℕ) : Type 0 where
  pub followed : IsFollowedAt g only_usable p
  pub holds : FoundBy (IsNodeOf g) (nth_production (core g) p).symbols node

-- what the search leads from and to
abbrev pub IsFollowedEdge : Numbered → Bool → ℕ → ℕ → Type 0
IsFollowedEdge g only_usable = IsEdge (IsNodeOf g) (Leads (IsFollowed g only_usable))

-- the search has reached exactly the nodes of reachable symbols
abbrev pub Knows : Numbered → Bool → SearchState → Type 0
Knows g only_usable x = (symbol : Sym) → IsSymbolOf (core g) symbol → (IsReachableIn x (node_of g symbol) ↔ IsReachable (IsFollowed g only_usable) symbol)

-- the start rule is productive, and the searches know what all productions reach from it, and what usable ones do
pub record AreReached (g : Numbered) (by_any by_usable : SearchState) : Type 0 where
  pub start : UnproductiveOrNot g 0 false
  pub any : Knows g false by_any
  pub usable : Knows g true by_usable
