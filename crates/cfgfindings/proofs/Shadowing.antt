-- Where a token shadows a rule.
use Rattle.std.proofs.Common.{◌≡◌, ℕ, List, [], Contains, Some, None, slice_get, position, sym, ap, subst, ◌∙◌}
use Rattle.std.specs.Cmp.Lexicographic.{bytes_decides, nat_list_eq_equiv}
use Rattle.std.specs.List.{IsDistinct}
use Rattle.std.specs.Str.{bytes_eq}
use Rattle.std.proofs.lemmas.List.Quantifiers.{position-Some}
use Rattle.std.proofs.lemmas.Option.{same_Some, slice_get-get_or}
use Rattle.cfgrammar.proofs.ListPositions.{position-distinct}
use Rattle.cfgrammar.specs.Span.{Span}
use Rattle.cfgrammar.specs.Syntax.{Syntax}
use Rattle.cfgfindings.specs.Findings.{IsShadowed}
use Rattle.cfgfindings.specs.Inner.Shadowing.{GivesWay}

module _ (s : Syntax) (distinct : IsDistinct bytes_eq s.tokens) (name : List ℕ) where
  there : (span : Span) (shadowed : IsShadowed s name span) → position (bytes_eq name) s.tokens ≡ Some shadowed.index
  there span shadowed = position-distinct nat_list_eq_equiv s.tokens shadowed.index name distinct shadowed.token

  pub no_token : position (bytes_eq name) s.tokens ≡ None → (span : Span) → IsShadowed s name span → ⊥
  no_token nowhere span shadowed = let no : None ≡ Some shadowed.index = sym nowhere ∙ there span shadowed in cc

  -- if it is the token at this index
  module _ (token : ℕ) (found : position (bytes_eq name) s.tokens ≡ Some token) where
    only : (span : Span) (shadowed : IsShadowed s name span) → shadowed.index ≡ token
    only span shadowed = same_Some _ _ (sym (there span shadowed) ∙ found)

    pub no_way : (GivesWay s name token → ⊥) → (span : Span) → IsShadowed s name span → ⊥
    no_way stays span shadowed =
        stays (shadowed.unused, λ start. subst (Contains s.token_directives) (only span shadowed) (shadowed.declared start))

    pub no_span : slice_get s.spans token ≡ None → (span : Span) → IsShadowed s name span → ⊥
    no_span none span shadowed =
        let no : None ≡ Some span = sym none ∙ sym (ap (slice_get s.spans) (only span shadowed)) ∙ shadowed.there in cc

    holds : slice_get s.tokens token ≡ Some name
    holds =
        let k = position-Some (bytes_eq name) s.tokens token [] found in
        slice_get-get_or s.tokens token [] k.0 ∙ ap Some (sym ((bytes_decides _ _).0 k.1))

    pub shadowed_at : GivesWay s name token → (span : Span) → slice_get s.spans token ≡ Some span → IsShadowed s name span
    shadowed_at (unused, declared) span at = record { index = token; token = holds; there = at; unused = unused; declared = declared }
