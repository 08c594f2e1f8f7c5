-- The locations of a value that are reported if it names no kind.
use Rattle.std.specs.Prelude.{IfSome}
use Rattle.cfgkinds.specs.Values.{ShownNamespaced, ShownSetting, ShownValue, Unitary, Constructor, Number, Text, Array, Flag, Given}

module _ {T : Type 0} (P : T → Type 0) where
  abbrev pub EachNameOffset : ShownNamespaced T → Type 0
  EachNameOffset name = IfSome name.namespace (λ given. P given.1) × P name.member.1

  abbrev pub EachSettingOffset : ShownSetting T → Type 0
  EachSettingOffset (Unitary name) = EachNameOffset name
  EachSettingOffset (Constructor ctor arg) = EachNameOffset ctor × EachNameOffset arg
  EachSettingOffset (Number number location) = P location
  EachSettingOffset (Text text location) = P location
  EachSettingOffset (Array inside opens closes) = P opens

  abbrev pub EachKindOffset : ShownValue T → Type 0
  EachKindOffset (Flag on location) = P location
  EachKindOffset (Given setting) = EachSettingOffset setting
