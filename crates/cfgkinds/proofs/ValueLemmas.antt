-- What each setting shows, and lists of settings with other locations.
use Rattle.std.proofs.Common.{◌≡◌, ◌∙◌, ℕ, List, [], ◌∷◌, map, refl, sym, ap, Vec, Global}
use Rattle.cfgkinds.specs.Values.{ShownSetting, Unitary, Constructor, Number, Array}
use Rattle.cfgkinds.specs.Values.{setting, settings_of, settings_view, setting_view, setting_step, namespaced_view, map_setting, map_settings}
use Rattle.cfgkinds.specs.declared.value.Namespaced.{Namespaced}
use Rattle.cfgkinds.specs.declared.value.Setting.{Setting, fold-roll-Setting}
use Rattle.cfgkinds.specs.declared.value.Setting.TheOpen.{Setting-F}
use Rattle.cfgkinds.specs.declared.value.Setting.TheVariants as rust
use Rattle.cfgkinds.specs.declared.value.Setting.TheVariants.{rolls-Unitary, rolls-Constructor, rolls-Num, rolls-Array}

module _ {T : Type 0} where
  pub view_name : (name : Namespaced T) → setting_view (rust.Unitary name) ≡ Unitary (namespaced_view name)
  view_name name = ap setting_view (sym (rolls-Unitary name)) ∙ fold-roll-Setting T (ShownSetting T) setting_step (Setting-F.Unitary name)

  pub view_applied : (ctor arg : Namespaced T) → setting_view (rust.Constructor ctor arg) ≡ Constructor (namespaced_view ctor) (namespaced_view arg)
  view_applied ctor arg =
      ap setting_view (sym (rolls-Constructor ctor arg)) ∙ fold-roll-Setting T (ShownSetting T) setting_step (Setting-F.Constructor ctor arg)

  pub view_number : (number : ℕ) (location : T) → setting_view (rust.Num number location) ≡ Number number location
  view_number number location = ap setting_view (sym (rolls-Num number location)) ∙ fold-roll-Setting T (ShownSetting T) setting_step (Setting-F.Num number location)

  pub view_array : (settings : Vec (Setting T) Global) (opens closes : T) → setting_view (rust.Array settings opens closes) ≡ Array (settings_view settings.items) opens closes
  view_array settings opens closes =
      ap setting_view (sym (rolls-Array settings opens closes)) ∙ fold-roll-Setting T (ShownSetting T) setting_step (Setting-F.Array settings opens closes)

pub map_settings-settings_view : {S T : Type 0} (f : S → T) (xs : List (Setting S)) → map_settings f (settings_view xs) ≡ settings_of (map (λ s. map_setting f (setting_view s)) xs)
map_settings-settings_view f [] = refl
map_settings-settings_view f (x ∷ xs) = ap (setting (map_setting f (setting_view x))) (map_settings-settings_view f xs)
