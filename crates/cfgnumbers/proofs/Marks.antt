-- What a file says of individual tokens, where the code looks it up, and the last token of a production.
use Rattle.std.proofs.Common.{◌≡◌, ℕ, List, map, false, is_some, Option, Some, None, option_map, String, Global, string_bytes, bytes_eq, refl, sym, ap, ◌∙◌, [], ◌∷◌, ◌++◌, filter_map, slice_get, arith, length-append}
use Rattle.std.specs.Map.{lookup}
use Rattle.std.specs.Option.{option_and_then, option_flatten, option_map_or, option_or}
use Rattle.std.proofs.lemmas.Option.{same_Some, slice_get-map}
use Rattle.lemmas.proofs.Lookups.{found-lookup, lookup-map}
use Rattle.lemmas.proofs.Tests.{list_any-map}
use Rattle.lemmas.specs.Lists.{pushed}
use Rattle.lemmas.proofs.Elements.{slice_get_push}
use Rattle.lemmas.proofs.Pushed.{filter_map-pushed}
use Rattle.cfgbase.specs.declared.span.Span.{Span}
use Rattle.cfgitems.specs.Building.{has_entry}
use Rattle.cfgitems.specs.Syntax.{Syntax, Symbol, last_of}
use Rattle.cfgitems.specs.SyntaxView.{precedence_entry, printed_entry, span_entry, text_view}
use Rattle.cfgitems.specs.declared.precedence.Precedence.{Precedence}
use Rattle.cfgnumbers.specs.Numbered.{precedence_of_token, printed_form, avoids_insert, token_in, last_token}
use Rattle.cfgitems.proofs.Views.{is_key}

module _ (s : Syntax) (name : List ℕ) where
  pub precedence_found : (es : List (String Global × (Precedence × Span))) → map precedence_entry es ≡ s.tables.precedences
      → (found : Option (Precedence × Span)) → found ≡ lookup (is_key name) es → option_map (λ said. said.0) found ≡ precedence_of_token s name
  precedence_found es same found is =
      ap (option_map (λ (said : Precedence × Span). said.0)) (is ∙ sym (kept (lookup (is_key name) es)) ∙ sym (lookup-map (bytes_eq name) string_bytes (λ (x : Precedence × Span). x) es) ∙ ap (lookup (bytes_eq name)) same)
    where
      kept : (o : Option (Precedence × Span)) → option_map (λ x. x) o ≡ o
      kept None = refl
      kept (Some x) = refl

  pub printed_found : (es : List (String Global × (Span × (String Global × Span)))) → map printed_entry es ≡ s.tables.printed_forms
      → (found : Option (Span × (String Global × Span))) → found ≡ lookup (is_key name) es → option_map_or (λ said. string_bytes said.1.0) found name ≡ printed_form s name
  printed_found es same found is =
      shown found ∙ ap (λ o. option_map_or (λ said. said.1.0) o name)
      (ap (option_map form) is ∙ sym (lookup-map (bytes_eq name) string_bytes form es) ∙ ap (lookup (bytes_eq name)) same)
    where
      form : Span × (String Global × Span) → Span × (List ℕ × Span)
      form said = (said.0, text_view said.1)

      shown : (o : Option (Span × (String Global × Span))) → option_map_or (λ said. string_bytes said.1.0) o name ≡ option_map_or (λ said. said.1.0) (option_map form o) name
      shown None = refl
      shown (Some said) = refl

  pub avoided : (es : List (String Global × Span)) → Some (map span_entry es) ≡ s.tables.avoid_insert → is_some (lookup (is_key name) es) ≡ avoids_insert s name
  avoided es same =
      found-lookup (is_key name) es ∙ sym (list_any-map (λ (entry : List ℕ × Span). bytes_eq name entry.0) span_entry es)
      ∙ ap (λ table. option_map_or (λ table. has_entry name table) table false) same

pub last_token-push : (symbols : List Symbol) (symbol : Symbol) → last_token (symbols ++ symbol ∷ []) ≡ option_or (token_in symbol) (last_token symbols)
last_token-push symbols symbol = ap last_of (filter_map-pushed token_in symbols symbol) ∙ go (token_in symbol)
  where
    names : List (List ℕ)
    names = filter_map token_in symbols

    go : (o : Option (List ℕ)) → last_of (pushed names o) ≡ option_or o (last_of names)
    go None = refl
    go (Some name) = slice_get_push names name _ (omega (arith, length-append names (name ∷ [])))

option_map-or : {A B : Type 0} (f : A → B) (a b : Option A) → option_map f (option_or a b) ≡ option_or (option_map f a) (option_map f b)
option_map-or f None b = refl
option_map-or f (Some x) b = refl

-- where the last token is, after one more symbol
pub last_at : {T : Type 0} (at : T → Option (List ℕ)) (token last : Option T) (symbols : List Symbol) (symbol : Symbol)
    → option_map at token ≡ option_map Some (token_in symbol) → option_map at last ≡ option_map Some (last_token symbols)
    → option_map at (option_or token last) ≡ option_map Some (last_token (symbols ++ symbol ∷ []))
last_at at token last symbols symbol here before =
    option_map-or at token last ∙ (λ i. option_or (here i) (before i))
    ∙ sym (option_map-or Some (token_in symbol) (last_token symbols)) ∙ ap (option_map Some) (sym (last_token-push symbols symbol))

-- the precedence of the token at an index, in the list of all tokens' precedences
pub precedence_at : {T : Type 0} (number : T → ℕ) (s : Syntax) (precedences : List (Option Precedence))
    → precedences ≡ map (precedence_of_token s) s.tokens → (token : Option T) (name : Option (List ℕ))
    → option_map (λ t. slice_get s.tokens (number t)) token ≡ option_map Some name
    → option_and_then (λ t. option_flatten (slice_get precedences (number t))) token ≡ option_and_then (precedence_of_token s) name
precedence_at number s precedences are None None same = refl
precedence_at number s precedences are None (Some name) same = cc
precedence_at number s precedences are (Some t) None same = cc
precedence_at number s precedences are (Some t) (Some name) same =
    ap (λ all. option_flatten (slice_get all (number t))) are
    ∙ ap option_flatten (slice_get-map (precedence_of_token s) s.tokens (number t))
    ∙ ap (λ found. option_flatten (option_map (precedence_of_token s) found)) (same_Some _ _ same)
