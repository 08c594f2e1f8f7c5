-- A string and a token that have no other name yet.
use Rattle.std.proofs.Common.{◌≡◌, ℕ, Bool, false, List, [], ◌∷◌, ◌++◌, ◌||◌, map, sym, ap, ◌∙◌}
use Rattle.std.specs.List.{list_any}
use Rattle.std.specs.Str.{bytes_eq}
use Rattle.std.proofs.lemmas.Bool.{or_parts}
use Rattle.std.proofs.lemmas.List.{map-append}
use Rattle.lemmas.specs.Lists.{pushed_unless}
use Rattle.lemmas.proofs.Tests.{list_any-map}
use Rattle.cfgitems.specs.Building.{has_entry}
use Rattle.bison_tree.specs.Names.{is_taken, with_alias, with_one}

module _ (aliases : List (List ℕ × List ℕ)) (string token : List ℕ) (free : is_taken aliases (string, token) ≡ false) where
  abbrev is_other : Bool
  is_other = has_entry token aliases

  abbrev has_other : Bool
  has_other = list_any (λ alias. bytes_eq token alias.1) aliases

  pub no_entry : has_entry string aliases ≡ false
  no_entry = (or_parts (has_entry string aliases) (is_other || has_other) free).0

  pub with_free : with_alias aliases (string, token) ≡ aliases ++ (string, token) ∷ []
  with_free = ap (λ b. pushed_unless b aliases (string, token)) free

  pub tokens-free : with_one (map (λ alias. alias.1) aliases) token ≡ map (λ alias. alias.1) (aliases ++ (string, token) ∷ [])
  tokens-free =
      ap (λ b. pushed_unless b (map second aliases) token)
      (list_any-map (bytes_eq token) second aliases ∙ (or_parts is_other has_other (or_parts (has_entry string aliases) (is_other || has_other) free).1).1)
      ∙ sym (map-append second aliases ((string, token) ∷ []))
    where
      second : List ℕ × List ℕ → List ℕ
      second alias = alias.1
