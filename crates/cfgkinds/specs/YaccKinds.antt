-- The kind of Yacc that a value names, and the value that names a kind.
use Rattle.std.specs.Prelude.{◌≡◌, ℕ, Bool, List, [], ◌∷◌, ◌++◌, codes, if◌then◌else◌, Option, Some, None, is_some, Result, Ok, Err}
use Rattle.std.specs.List.{AllZip, filter_map}
use Rattle.std.specs.Str.{bytes_eq}
use Rattle.cfgbase.specs.Locations.{Origin, InWords}
use Rattle.cfgerrors.specs.HeaderErrors.{InvalidEntry, error_kind_view}
use Rattle.cfgkinds.specs.Values.{Located, ShownNamespaced, ShownValue, Given, Unitary, Constructor, value_offset}
use Rattle.cfgkinds.specs.declared.kind.YaccKind.{YaccKind}
use Rattle.cfgkinds.specs.declared.kind.YaccKind.TheVariants.{Original, Grmtools, Eco}
use Rattle.cfgkinds.specs.declared.kind.YaccOriginalActionKind.{YaccOriginalActionKind}
use Rattle.cfgkinds.specs.declared.kind.YaccOriginalActionKind.TheVariants.{NoAction, UserAction, GenericParseTree}
use Rattle.cfgkinds.specs.declared.fault.KindFault.{KindFault}
use Rattle.cfgkinds.specs.declared.fault.KindFault.TheVariants.{Error, OutOfMemory}

-- the namespaces that may qualify a kind of Yacc and a kind of actions; the first is also the key of a section that names a kind
abbrev pub kind_namespace : List ℕ
kind_namespace = codes "yacckind"

abbrev pub action_namespace : List ℕ
action_namespace = codes "yaccoriginalactionkind"

abbrev pub action_name : YaccOriginalActionKind → List ℕ
action_name NoAction = codes "noaction"
action_name UserAction = codes "useraction"
action_name GenericParseTree = codes "genericparsetree"

-- the kind that a name names by itself
abbrev pub plain_kind : List ℕ → Option YaccKind
plain_kind name = if bytes_eq name (codes "grmtools") then Some Grmtools else if bytes_eq name (codes "eco") then Some Eco else None

-- the kind that a name of a kind of actions makes of `original`
abbrev pub original_kind : List ℕ → Option YaccKind
original_kind name =
    if bytes_eq name (action_name NoAction) then Some (Original NoAction)
    else if bytes_eq name (action_name UserAction) then Some (Original UserAction)
    else if bytes_eq name (action_name GenericParseTree) then Some (Original GenericParseTree)
    else None

module _ {T : Type 0} where
  -- the location of a namespace other than the permitted one
  abbrev pub wrong_namespace : List ℕ → Option (Located T) → Option T
  wrong_namespace expected None = None
  wrong_namespace expected (Some given) = if bytes_eq given.0 expected then None else Some given.1

  -- the location of an unknown name
  abbrev pub wrong_member : Bool → Located T → Option T
  wrong_member known given = if known then None else Some given.1

  -- what is wrong with the two parts of a name, each judged by itself
  abbrev pub wrong_parts : List ℕ → Bool → ShownNamespaced T → List (Option T)
  wrong_parts expected known name = wrong_namespace expected name.namespace ∷ wrong_member known name.member ∷ []

  abbrev pub kind_unless : List T → Option YaccKind → Result YaccKind (List T)
  kind_unless [] (Some kind) = Ok kind
  kind_unless wrong _ = Err wrong

  -- a kind, if no part is wrong; otherwise the locations of the wrong parts, in order
  abbrev pub judged : List (Option T) → Option YaccKind → Result YaccKind (List T)
  judged parts kind = kind_unless (filter_map (λ part. part) parts) kind

  -- the kind that a value names, or the locations of what is wrong with it
  abbrev pub kind_of_value : ShownValue T → Result YaccKind (List T)
  kind_of_value (Given (Unitary name)) =
      let kind = plain_kind name.member.0 in
      judged (wrong_parts kind_namespace (is_some kind) name) kind
  kind_of_value (Given (Constructor ctor arg)) =
      let kind = original_kind arg.member.0 in
      judged
      (wrong_parts kind_namespace (bytes_eq ctor.member.0 (codes "original")) ctor ++ wrong_parts action_namespace (is_some kind) arg)
      kind
  kind_of_value value = judged (Some (value_offset value) ∷ []) None

  -- a refusal gives clones of the locations, or says that there is no memory for them
  abbrev pub Refuses : (T → T → Type 0) → Result YaccKind (List T) → KindFault T → Type 0
  Refuses is_clone kind (Error error) =
      (wrong : List T) × (kind ≡ Err wrong) × (error_kind_view error.kind ≡ InvalidEntry kind_namespace)
      × AllZip is_clone wrong error.locations.items
  Refuses is_clone kind OutOfMemory = (wrong : List T) × (kind ≡ Err wrong)

-- the locations in a value that is made from a kind
abbrev pub from_kind : Origin
from_kind = InWords (codes "From<YaccKind>")

abbrev pub name_of_kind : List ℕ → List ℕ → ShownNamespaced Origin
name_of_kind namespace name = record { namespace = Some (namespace, from_kind); member = (name, from_kind) }

-- the value that names a kind
abbrev pub value_of_kind : YaccKind → ShownValue Origin
value_of_kind Grmtools = Given (Unitary (name_of_kind kind_namespace (codes "grmtools")))
value_of_kind Eco = Given (Unitary (name_of_kind kind_namespace (codes "eco")))
value_of_kind (Original action) =
    Given (Constructor (name_of_kind kind_namespace (codes "original")) (name_of_kind action_namespace (action_name action)))
