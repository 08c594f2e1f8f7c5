-- What the values of a section show, as plain data. T is the type of locations.
use Rattle.std.specs.Prelude.{ℕ, Bool, List, [], ◌∷◌, map, Option, String, string_bytes, option_map}
use Rattle.std.specs.declared.alloc.Global.{Global}
use Rattle.cfgkinds.specs.declared.value.Namespaced.{Namespaced}
use Rattle.cfgkinds.specs.declared.value.Setting.{Setting, fold-Setting}
use Rattle.cfgkinds.specs.declared.value.Setting.TheOpen.{Setting-F}
use Rattle.cfgkinds.specs.declared.value.Value.{Value}
use Rattle.cfgkinds.specs.declared.value.Value.TheVariants as values
use Rattle.cfgkinds.specs.declared.value.HeaderValue.{HeaderValue}

-- a name with its location
abbrev pub Located : Type 0 → Type 0
Located T = List ℕ × T

-- a name that may have a namespace
pub record ShownNamespaced (T : Type 0) : Type 0 where
  pub namespace : Option (Located T)
  pub member : Located T

mutual
  pub data ShownSetting (T : Type 0) : Type 0 where
    -- a name
    Unitary : ShownNamespaced T → ShownSetting T
    -- a name, and the name that it is applied to
    Constructor : ShownNamespaced T → ShownNamespaced T → ShownSetting T
    Number : ℕ → T → ShownSetting T
    -- a text, as it is between its quotes
    Text : List ℕ → T → ShownSetting T
    -- settings, and the locations of the two brackets
    Array : ShownSettings T → T → T → ShownSetting T

  -- a list of settings
  pub data ShownSettings (T : Type 0) : Type 0 where
    no_settings : ShownSettings T
    setting : ShownSetting T → ShownSettings T → ShownSettings T

-- a flag: whether the key is given by itself or after a `!`; or what follows the key's colon
pub data ShownValue (T : Type 0) : Type 0 where
  Flag : Bool → T → ShownValue T
  Given : ShownSetting T → ShownValue T

-- a key's location, and the key's value
pub record ShownHeaderValue (T : Type 0) : Type 0 where
  pub location : T
  pub value : ShownValue T

module _ {T : Type 0} where
  abbrev pub settings_of : List (ShownSetting T) → ShownSettings T
  settings_of [] = no_settings
  settings_of (s ∷ rest) = setting s (settings_of rest)

  abbrev pub located_view : String Global × T → Located T
  located_view name = (string_bytes name.0, name.1)

  abbrev pub namespaced_view : Namespaced T → ShownNamespaced T
  namespaced_view name = record { namespace = option_map located_view name.namespace; member = located_view name.member }

  -- one level, whose inner settings are already converted to data
  abbrev pub setting_step : Setting-F T (ShownSetting T) → ShownSetting T
  setting_step (Setting-F.Unitary name) = Unitary (namespaced_view name)
  setting_step (Setting-F.Constructor ctor arg) = Constructor (namespaced_view ctor) (namespaced_view arg)
  setting_step (Setting-F.Num number location) = Number number location
  setting_step (Setting-F.String text location) = Text (string_bytes text) location
  setting_step (Setting-F.Array settings opens closes) = Array (settings_of settings.items) opens closes

  abbrev pub setting_view : Setting T → ShownSetting T
  setting_view = fold-Setting T (ShownSetting T) setting_step

  abbrev pub settings_view : List (Setting T) → ShownSettings T
  settings_view settings = settings_of (map setting_view settings)

  abbrev pub value_view : Value T → ShownValue T
  value_view (values.Flag on location) = Flag on location
  value_view (values.Setting s) = Given (setting_view s)

  abbrev pub header_value_view : HeaderValue T → ShownHeaderValue T
  header_value_view entry = record { location = entry.0; value = value_view entry.1 }

  -- the location that represents a setting: of an array its opening bracket's, of a name that of the name without its namespace, and, if
  -- the name is applied to another, the other's
  abbrev pub setting_offset : ShownSetting T → T
  setting_offset (Unitary name) = name.member.1
  setting_offset (Constructor ctor arg) = arg.member.1
  setting_offset (Number number location) = location
  setting_offset (Text text location) = location
  setting_offset (Array inside opens closes) = opens

  -- the location that represents a value
  abbrev pub value_offset : ShownValue T → T
  value_offset (Flag on location) = location
  value_offset (Given s) = setting_offset s

-- the same with other locations
module _ {S T : Type 0} (f : S → T) where
  abbrev pub map_located : Located S → Located T
  map_located name = (name.0, f name.1)

  abbrev pub map_namespaced : ShownNamespaced S → ShownNamespaced T
  map_namespaced name = record { namespace = option_map map_located name.namespace; member = map_located name.member }

  abbrev mutual
    pub map_setting : ShownSetting S → ShownSetting T
    map_setting (Unitary name) = Unitary (map_namespaced name)
    map_setting (Constructor ctor arg) = Constructor (map_namespaced ctor) (map_namespaced arg)
    map_setting (Number number location) = Number number (f location)
    map_setting (Text text location) = Text text (f location)
    map_setting (Array inside opens closes) = Array (map_settings inside) (f opens) (f closes)

    pub map_settings : ShownSettings S → ShownSettings T
    map_settings no_settings = no_settings
    map_settings (setting s rest) = setting (map_setting s) (map_settings rest)

  abbrev pub map_value : ShownValue S → ShownValue T
  map_value (Flag on location) = Flag on (f location)
  map_value (Given s) = Given (map_setting s)

  abbrev pub map_header_value : ShownHeaderValue S → ShownHeaderValue T
  map_header_value entry = record { location = f entry.location; value = map_value entry.value }
