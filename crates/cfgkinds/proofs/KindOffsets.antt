-- If a value names no kind, the locations that are reported are the value's.
use Rattle.std.proofs.Common.{◌≡◌, ℕ, ◌<◌, Bool, true, false, List, [], ◌∷◌, ◌++◌, length, All, Option, Some, None, is_some, refl, arith, codes, if◌then◌else◌}
use Rattle.std.specs.List.{filter_map}
use Rattle.std.specs.Prelude.{IfSome, IfErr}
use Rattle.std.specs.Str.{bytes_eq}
use Rattle.std.proofs.lemmas.List.Elements.{All-nil, All-cons, All-append}
use Rattle.lemmas.proofs.Options.{All-filter_map}
use Rattle.cfgkinds.specs.declared.kind.YaccKind.{YaccKind}
use Rattle.cfgkinds.specs.Values.{Located, ShownNamespaced, ShownValue, Flag, Given, Unitary, Constructor, Number, Text, Array}
use Rattle.cfgkinds.specs.YaccKinds.{kind_namespace, action_namespace, plain_kind, original_kind, wrong_namespace, wrong_member, wrong_parts, kind_unless, judged, kind_of_value}
use Rattle.cfgkinds.proofs.ValueOffsets.{EachNameOffset, EachKindOffset}

module _ {T : Type 0} (P : T → Type 0) where
  abbrev AreReported : List T → Type 0
  AreReported offsets = (0 < length offsets) × All P offsets

  namespace_reported : (expected : List ℕ) (given : Option (Located T)) → IfSome given (λ g. P g.1) → IfSome (wrong_namespace expected given) P
  namespace_reported expected None h = tt
  namespace_reported expected (Some given) h = go (bytes_eq given.0 expected)
    where
      go : (same : Bool) → IfSome (if same then None else Some given.1) P
      go true = tt
      go false = h

  member_reported : (known : Bool) (given : Located T) → P given.1 → IfSome (wrong_member known given) P
  member_reported true given h = tt
  member_reported false given h = h

  parts_reported : (expected : List ℕ) (known : Bool) (name : ShownNamespaced T) → EachNameOffset P name → All (λ part. IfSome part P) (wrong_parts expected known name)
  parts_reported expected known name h =
      All-cons (λ part. IfSome part P) (wrong_namespace expected name.namespace) (wrong_member known name.member ∷ []) (namespace_reported expected name.namespace h.0)
      (All-cons (λ part. IfSome part P) (wrong_member known name.member) [] (member_reported known name.member h.1) (All-nil (λ part. IfSome part P)))

  unless_reported : (wrong : List T) (kind : Option YaccKind) → All P wrong → (kind ≡ None → 0 < length wrong) → IfErr (kind_unless wrong kind) AreReported
  unless_reported [] (Some kind) all some = tt
  unless_reported [] None all some = (some refl, all)
  unless_reported (location ∷ wrong) kind all some = (omega arith, all)

  judged_reported : (parts : List (Option T)) (kind : Option YaccKind) → All (λ part. IfSome part P) parts → (kind ≡ None → 0 < length (filter_map (λ part. part) parts))
      → IfErr (judged parts kind) AreReported
  judged_reported parts kind all some = unless_reported (filter_map (λ part. part) parts) kind (All-filter_map P (λ part. part) parts all) some

  -- an unknown name comes after whatever is wrong before it
  unknown_last : (first : List (Option T)) (location : T) → 0 < length (filter_map (λ part. part) (first ++ Some location ∷ []))
  unknown_last [] location = omega arith
  unknown_last (None ∷ first) location = unknown_last first location
  unknown_last (Some x ∷ first) location = omega arith

  unknown_reported : {K : Type 0} (first : List (Option T)) (kind : Option K) (given : Located T) → kind ≡ None
      → 0 < length (filter_map (λ part. part) (first ++ wrong_member (is_some kind) given ∷ []))
  unknown_reported first None given e = unknown_last first given.1
  unknown_reported first (Some kind) given e = cc

  one_reported : (location : T) → P location → IfErr (judged (Some location ∷ []) None) AreReported
  one_reported location h = (omega arith, All-cons P location [] h (All-nil P))

  pub kind_offsets : (value : ShownValue T) → EachKindOffset P value → IfErr (kind_of_value value) AreReported
  kind_offsets (Given (Unitary name)) h =
      let kind = plain_kind name.member.0 in
      judged_reported (wrong_parts kind_namespace (is_some kind) name) kind (parts_reported kind_namespace (is_some kind) name h)
      (unknown_reported (wrong_namespace kind_namespace name.namespace ∷ []) kind name.member)
  kind_offsets (Given (Constructor ctor arg)) h =
      let kind = original_kind arg.member.0 in
      let original = bytes_eq ctor.member.0 (codes "original") in
      judged_reported (wrong_parts kind_namespace original ctor ++ wrong_parts action_namespace (is_some kind) arg) kind
      (All-append (λ part. IfSome part P) (wrong_parts kind_namespace original ctor) (wrong_parts action_namespace (is_some kind) arg) (parts_reported kind_namespace original ctor h.0) (parts_reported action_namespace (is_some kind) arg h.1))
      (unknown_reported (wrong_namespace kind_namespace ctor.namespace ∷ wrong_member original ctor.member ∷ wrong_namespace action_namespace arg.namespace ∷ []) kind arg.member)
  kind_offsets (Flag on location) h = one_reported location h
  kind_offsets (Given (Number number location)) h = one_reported location h
  kind_offsets (Given (Text text location)) h = one_reported location h
  kind_offsets (Given (Array inside opens closes)) h = one_reported opens h
