-- Steps: items after their next symbol is read, each with the number of that symbol.
use Rattle.std.specs.Prelude.{◌≡◌, ◌==◌, ◌<◌, ◌++◌, ℕ, List, Contains, length, map}
use Rattle.std.specs.List.{filter}
use Rattle.lr_states.specs.declared.Item.{Item}
use Rattle.lr_states.specs.declared.successors.Step.{Step}

-- the items of the steps, in order
abbrev pub items_of : List Step → List Item
items_of steps = map (λ step. step.item) steps

-- the items of those by the symbol of this number
abbrev pub items_by : List Step → ℕ → List Item
items_by steps node = items_of (filter (λ step. step.symbol == node) steps)

-- the steps begin with some by this symbol, and the others are by later ones
pub record IsFirstGroup (steps : List Step) (symbol : ℕ) (group others : List Step) : Type 0 where
  pub whole : steps ≡ group ++ others
  pub some : 0 < length group
  pub same : (step : Step) → Contains group step → step.symbol ≡ symbol
  pub later : (step : Step) → Contains others step → symbol < step.symbol
