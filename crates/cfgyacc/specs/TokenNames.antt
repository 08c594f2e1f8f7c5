-- The names of a grammar's tokens.
use Rattle.std.specs.Prelude.{ℕ, List, Option, map}
use Rattle.cfgnumbers.specs.Numbered.{Numbered}

-- the name of each token, in the order of their indices; the end token, which is the last, has no name
abbrev pub token_names : Numbered → List (Option (List ℕ))
token_names g = map (λ token. token.name) g.tokens
