-- The locations of a value's parts make no difference to the kind that it names, and a refusal lists at least one part.
use Rattle.std.proofs.Common.{◌≡◌, List, [], ◌∷◌, ◌++◌, map, filter_map, Bool, true, false, Option, Some, None, is_some, option_map, Result, Ok, Err, codes, refl, sym, ap, ◌∙◌}
use Rattle.std.specs.Prelude.{◌≢◌, ℕ}
use Rattle.std.specs.Str.{bytes_eq}
use Rattle.cfgbase.specs.Locations.{location_view}
use Rattle.cfgbase.specs.declared.span.Location.{Location}
use Rattle.cfgkinds.specs.Values.{Located, ShownValue, Flag, Given, Unitary, Constructor, Number, Text, Array, map_located, map_value}
use Rattle.cfgkinds.specs.YaccKinds.{action_namespace, judged, kind_namespace, kind_of_value, kind_unless, original_kind, plain_kind, value_of_kind, wrong_member, wrong_namespace, wrong_parts}
use Rattle.cfgkinds.specs.declared.kind.YaccKind.{YaccKind}
use Rattle.cfgkinds.specs.declared.kind.YaccKind.TheVariants.{Original, Grmtools, Eco}
use Rattle.cfgkinds.specs.declared.kind.YaccOriginalActionKind.TheVariants.{NoAction, UserAction, GenericParseTree}

abbrev kind_only : {T : Type 0} → Result YaccKind (List T) → Option YaccKind
kind_only (Ok kind) = Some kind
kind_only (Err wrong) = None

kind_only-Ok : {T : Type 0} (r : Result YaccKind (List T)) (kind : YaccKind) → kind_only r ≡ Some kind → r ≡ Ok kind
kind_only-Ok (Ok named) kind e = cc
kind_only-Ok (Err wrong) kind e = cc

module _ {S T : Type 0} (f : S → T) where
  namespace_along : (expected : List ℕ) (given : Option (Located S)) → wrong_namespace expected (option_map (map_located f) given) ≡ option_map f (wrong_namespace expected given)
  namespace_along expected None = refl
  namespace_along expected (Some given) = go (bytes_eq given.0 expected)
    where
      go : (right : Bool) → wrong_member right (map_located f given) ≡ option_map f (wrong_member right given)
      go true = refl
      go false = refl

  member_along : (known : Bool) (given : Located S) → wrong_member known (map_located f given) ≡ option_map f (wrong_member known given)
  member_along true given = refl
  member_along false given = refl

  judged_along : (parts : List (Option S)) (kind : Option YaccKind) → kind_only (judged (map (option_map f) parts) kind) ≡ kind_only (judged parts kind)
  judged_along [] None = refl
  judged_along [] (Some kind) = refl
  judged_along (None ∷ parts) kind = judged_along parts kind
  judged_along (Some location ∷ parts) kind = refl

  -- the same kind, whatever the locations of its parts
  kind_along : (value : ShownValue S) → kind_only (kind_of_value (map_value f value)) ≡ kind_only (kind_of_value value)
  kind_along (Flag on location) = refl
  kind_along (Given (Unitary name)) =
      let kind = plain_kind name.member.0 in
      ap (λ parts. kind_only (judged parts kind)) (λ i. namespace_along kind_namespace name.namespace i ∷ member_along (is_some kind) name.member i ∷ [])
      ∙ judged_along (wrong_parts kind_namespace (is_some kind) name) kind
  kind_along (Given (Constructor ctor arg)) =
      let original = bytes_eq ctor.member.0 (codes "original") in
      let kind = original_kind arg.member.0 in
      ap (λ parts. kind_only (judged parts kind))
      (λ i. namespace_along kind_namespace ctor.namespace i ∷ member_along original ctor.member i
      ∷ namespace_along action_namespace arg.namespace i ∷ member_along (is_some kind) arg.member i ∷ [])
      ∙ judged_along (wrong_parts kind_namespace original ctor ++ wrong_parts action_namespace (is_some kind) arg) kind
  kind_along (Given (Number number location)) = refl
  kind_along (Given (Text text location)) = refl
  kind_along (Given (Array inside opens closes)) = refl

comes_back : (kind : YaccKind) → kind_only (kind_of_value (value_of_kind kind)) ≡ Some kind
comes_back Grmtools = refl
comes_back Eco = refl
comes_back (Original NoAction) = refl
comes_back (Original UserAction) = refl
comes_back (Original GenericParseTree) = refl

pub kind_back : (kind : YaccKind) (value : ShownValue Location) → map_value location_view value ≡ value_of_kind kind → kind_of_value value ≡ Ok kind
kind_back kind value e =
    kind_only-Ok (kind_of_value value) kind
    (sym (kind_along location_view value) ∙ ap (λ v. kind_only (kind_of_value v)) e ∙ comes_back kind)

module _ {T : Type 0} where
  wrong_there : (prefix : List (Option T)) (location : T) → filter_map (λ p. p) (prefix ++ Some location ∷ []) ≢ []
  wrong_there [] location none = cc
  wrong_there (None ∷ prefix) location none = wrong_there prefix location none
  wrong_there (Some other ∷ prefix) location none = cc

  -- if there is no kind, the name is unknown
  unknown_there : {A : Type 0} (kind : Option A) (prefix : List (Option T)) (name : Located T) → is_some kind ≡ false → filter_map (λ p. p) (prefix ++ wrong_member (is_some kind) name ∷ []) ≢ []
  unknown_there None prefix name e = wrong_there prefix name.1
  unknown_there (Some kind) prefix name e = cc

  refusal : (wrong : List T) (kind : Option YaccKind) (reported : List T) → kind_unless wrong kind ≡ Err reported → (is_some kind ≡ false → wrong ≢ []) → reported ≢ []
  refusal [] None reported e some none = some refl refl
  refusal [] (Some kind) reported e some none = cc
  refusal (x ∷ wrong) None reported e some none = cc
  refusal (x ∷ wrong) (Some kind) reported e some none = cc

  pub refusal_somewhere : (value : ShownValue T) (reported : List T) → kind_of_value value ≡ Err reported → reported ≢ []
  refusal_somewhere (Flag on location) reported e = refusal (location ∷ []) None reported e (λ none. wrong_there [] location)
  refusal_somewhere (Given (Unitary name)) reported e =
      let kind = plain_kind name.member.0 in
      refusal (filter_map (λ p. p) (wrong_parts kind_namespace (is_some kind) name)) kind reported e
      (λ none. unknown_there kind (wrong_namespace kind_namespace name.namespace ∷ []) name.member none)
  refusal_somewhere (Given (Constructor ctor arg)) reported e =
      let original = bytes_eq ctor.member.0 (codes "original") in
      let kind = original_kind arg.member.0 in
      refusal (filter_map (λ p. p) (wrong_parts kind_namespace original ctor ++ wrong_parts action_namespace (is_some kind) arg)) kind reported e
      (λ none. unknown_there kind
      (wrong_namespace kind_namespace ctor.namespace ∷ wrong_member original ctor.member ∷ wrong_namespace action_namespace arg.namespace ∷ []) arg.member none)
  refusal_somewhere (Given (Number number location)) reported e = refusal (location ∷ []) None reported e (λ none. wrong_there [] location)
  refusal_somewhere (Given (Text text location)) reported e = refusal (location ∷ []) None reported e (λ none. wrong_there [] location)
  refusal_somewhere (Given (Array inside opens closes)) reported e = refusal (opens ∷ []) None reported e (λ none. wrong_there [] opens)
