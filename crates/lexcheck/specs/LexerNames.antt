-- Where a lexer's names and the names of tokens differ. A token is here represented by its name, if it has one. Names are the same if their
-- bytes are.
use Rattle.std.specs.Prelude.{ℕ, Bool, false, not, List, Option}
use Rattle.std.specs.List.{list_any}
use Rattle.std.specs.Option.{option_map_or}
use Rattle.std.specs.Str.{bytes_eq}
use Rattle.cfgrammar.specs.Lists.{positions}

-- the token has this name
abbrev pub is_name : List ℕ → Option (List ℕ) → Bool
is_name name token = option_map_or (bytes_eq name) token false

-- no token has the name
abbrev pub is_unknown : List (Option (List ℕ)) → List ℕ → Bool
is_unknown tokens name = not (list_any (is_name name) tokens)

-- the token has a name that is none of these; the end token has no name, so it isn't missing
abbrev pub is_missing : List (List ℕ) → Option (List ℕ) → Bool
is_missing names token = option_map_or (λ name. not (list_any (bytes_eq name) names)) token false

-- the indices of the names that no token has, in order; of a repeated name, each
abbrev pub unknown_positions : List (Option (List ℕ)) → List (List ℕ) → List ℕ
unknown_positions tokens names = positions (is_unknown tokens) names

-- the tokens with a name that isn't among these, in the order of their indices
abbrev pub missing_tokens : List (Option (List ℕ)) → List (List ℕ) → List ℕ
missing_tokens tokens names = positions (is_missing names) tokens
