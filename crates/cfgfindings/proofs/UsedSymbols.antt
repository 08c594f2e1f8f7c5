-- Symbols by their names, and whether the start rule reaches them.
use Rattle.std.proofs.Common.{◌≡◌, ◌↔◌, ◌+◌, ◌<◌, ℕ, Bool, true, false, IsSome, IsTrue, List, Option, None, Some, get_or, length, option_map, position, slice_get, refl, sym, subst, ap, ◌∙◌}
use Rattle.std.specs.Option.{option_map_or}
use Rattle.std.specs.Str.{bytes_eq}
use Rattle.std.proofs.lemmas.List.Quantifiers.{position-Some}
use Rattle.std.proofs.lemmas.Option.{get_or_from_slice_get, same_Some}
use Rattle.search.specs.Reachable.{SearchState}
use Rattle.cfgrammar.specs.Grammar.{HasProduction, IsSymbolOf, Sym}
use Rattle.cfgrammar.specs.Accessors.{has_token_name, token_part}
use Rattle.cfgrammar.specs.Numbered.{Numbered, NumberedToken, core}
use Rattle.cfgrammar.specs.Syntax.{Symbol}
use Rattle.cfgfindings.specs.Inner.Reached.{Knows, node_of}
use Rattle.cfgfindings.specs.Needless.{IsUsedSymbol, symbol_named}
use Rattle.cfgfindings.specs.Useless.{IsReachable}

module _ (g : Numbered) (symbol : Symbol) (named : Option Sym) (is : named ≡ symbol_named g symbol) where
  -- a symbol of the grammar is used if the search has reached it
  pub used_if_reached : (numbered : Sym) → named ≡ Some numbered → (reached : SearchState) → Knows g false reached → IsSymbolOf (core g) numbered
      → (bit : Bool) → bit ≡ get_or reached.reachable (node_of g numbered) false → IsTrue bit ↔ IsUsedSymbol g symbol
  used_if_reached numbered found reached knows within bit read =
      let there : symbol_named g symbol ≡ Some numbered = sym is ∙ found in (
        (λ on. record { numbered = numbered; named = there; reachable = (knows numbered within).0 (sym read ∙ on) }),
        (λ used. read ∙ (knows numbered within).1 (subst (IsReachable (HasProduction (core g))) (same_Some _ _ (sym used.named ∙ there)) used.reachable)),
      )

has_name : (name : List ℕ) (other : Option (List ℕ)) → option_map_or (bytes_eq name) other false ≡ true → IsSome other
has_name name None is = is
has_name name (Some x) is = refl

from_mapped : {B : Type 0} (f : B → List ℕ) (read : Option B) → IsSome (option_map f read) → IsSome read
from_mapped f None is = is
from_mapped f (Some x) is = refl

-- a token that has this name isn't the last, which has none
module _ (g : Numbered) (t : ℕ) (name : List ℕ) {B : Type 0} (read : Option B) (f : B → List ℕ) where
  pub named_within : position (has_token_name name) g.tokens ≡ Some t → token_part (λ token. token.name) g t ≡ Some (option_map f read)
      → (IsSome read ↔ (t + 1 < length g.tokens)) → t + 1 < length g.tokens
  named_within there part known = known.0 (from_mapped f read (go (slice_get g.tokens t) refl part))
    where
      go : (o : Option NumberedToken) → slice_get g.tokens t ≡ o → option_map (λ token. token.name) o ≡ Some (option_map f read) → IsSome (option_map f read)
      go None at is = let no : None ≡ Some (option_map f read) = is in cc
      go (Some token) at is =
          let holds : has_token_name name token ≡ true =
          ap (has_token_name name) (sym (get_or_from_slice_get g.tokens t token token at)) ∙ (position-Some (has_token_name name) g.tokens t token there).1 in
          subst IsSome (same_Some _ _ is) (has_name name token.name holds)
