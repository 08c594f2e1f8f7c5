-- Whether a `%token` declared a name.
use Rattle.std.proofs.Common.{◌≡◌, ℕ, ◌==◌, Option, List, length, refl, arith, position, false, [], ◌∷◌, Some, None}
use Rattle.std.specs.List.{list_any}
use Rattle.std.specs.Option.{option_map_or}
use Rattle.std.specs.Str.{bytes_eq}
use Rattle.cfgitems.specs.Syntax.{Syntax}
use Rattle.cfgitems.specs.Building.{is_declared}

-- if no `%token` exists, it declares no name
pub none_declared : (s : Syntax) (name : List ℕ) → length s.token_directives ≡ 0 → false ≡ is_declared s name
unfolding is_declared
none_declared s name empty = go s.token_directives (position (bytes_eq name) s.tokens) empty
  where
    go : (directives : List ℕ) (index : Option ℕ) → length directives ≡ 0 → false ≡ option_map_or (λ i. list_any (λ j. i == j) directives) index false
    go [] None e = refl
    go [] (Some i) e = refl
    go (directive ∷ directives) index e = absurd (omega arith)
