-- Marks of the tokens whose names are given.
use Rattle.std.specs.Prelude.{◌≡◌, ℕ, ◌<◌, ◌==◌, Bool, false, List, length, get_or, option_map, position}
use Rattle.std.specs.List.{list_any}
use Rattle.std.specs.HashMap.{HashMap, get_by}
use Rattle.std.specs.Option.{option_map_or}
use Rattle.std.specs.Str.{bytes_eq}
use denote.Ref.{Bor}
use Rattle.cfgrammar.specs.Accessors.{has_token_name}
use Rattle.cfgrammar.specs.Numbered.{Numbered}
use Rattle.cfgrammar.specs.TIdx.{TIdx}

-- the first token with this name is token t
abbrev pub names_token : Numbered → ℕ → List ℕ → Bool
names_token g t name = option_map_or (λ k. k == t) (position (has_token_name name) g.tokens) false

-- a token is marked exactly if it has one of these names
pub record AreMarks (g : Numbered) (names : List (List ℕ)) (marks : List Bool) : Type 0 where
  pub counted : length marks ≡ length g.tokens
  pub each : (t : ℕ) → t < length g.tokens → get_or marks t false ≡ list_any (names_token g t) names

-- the map gives each name the number of the token that has it
abbrev pub IsTokensMap : {S H : Type 0} → (S → ℕ) → Numbered → HashMap (Bor (List ℕ)) (TIdx S) H → Type 0
IsTokensMap number g tokens = (name : List ℕ)
    → option_map (λ t. number t.0) (get_by (λ key. bytes_eq name key.now) tokens) ≡ position (has_token_name name) g.tokens
