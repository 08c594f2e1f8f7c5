-- Rules and tokens as the nodes of a search.
use Rattle.std.specs.Prelude.{◌≡◌, ◌↔◌, ◌⊎◌, ℕ, ◌+◌, map, length, Some, slice_get}
use Rattle.search.specs.Reachable.{FoundBy, IsReachableIn, SearchState}
use Rattle.cfgitems.specs.Syntax.{Syntax, Production, entry_name}
use Rattle.cfgast.specs.Unused.{Name, RuleName, TokenName, name_of, IsReachable, Expected}

-- how many rules and tokens there are
abbrev pub nodes : Syntax → ℕ
nodes s = length s.rules + length s.tokens

-- the rules by their indices, and after them the tokens
abbrev pub IsNodeOf : Syntax → Name → ℕ → Type 0
IsNodeOf s (RuleName name) node = slice_get (map entry_name s.rules) node ≡ Some name
IsNodeOf s (TokenName name) node = (index : ℕ) × (node ≡ length s.rules + index) × (slice_get s.tokens index ≡ Some name)

-- the production at this index holds a symbol whose node this is
pub record RefersAt (s : Syntax) (index node : ℕ) : Type 0 where
  pub production : Production
  pub there : slice_get s.productions index ≡ Some production
  pub holds : FoundBy (IsNodeOf s) (map name_of production.symbols) node

-- the search has reached exactly what is reachable, or expected to be unused
pub record Knows (s : Syntax) (x : SearchState) : Type 0 where
  pub shape : length x.reachable ≡ nodes s
  pub each : (node : ℕ) (name : Name) → IsNodeOf s name node → (IsReachableIn x node ↔ (IsReachable s name ⊎ Expected s name))
