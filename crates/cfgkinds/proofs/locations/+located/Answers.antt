use Rattle.std.proofs.Common.{◌≡◌, map, sym, ap, ◌∙◌}
use Rattle.std.proofs.lemmas.List.{take_all}
use Rattle.cfgbase.specs.declared.span.Location.TheVariants.{Span as at_span}
use Rattle.cfgkinds.specs.Values.{Unitary, Constructor, Array, map_setting, setting_view, settings_of}
use Rattle.cfgkinds.proofs.ValueLemmas.{map_settings-settings_view, view_name, view_applied, view_number, view_array}
use Rattle.cfgkinds.specs.declared.value.Setting.{Setting}
use Rattle.cfgbase.specs.declared.span.Span.{Span}
use Rattle.cfgkinds.proofs.locations.+located.Goals as goal

pub all_located-returns : goal.all_located-returns
all_located-returns t c =
    let all = take_all c.loop-setting.setting-index c.deref-setting-items.result.now c.loop-setting-test.false ∙ c.deref-setting-items.ensures.value in
    ap settings_of (c.loop-setting.invariant ∙ ap (map (λ s. map_setting (λ x. at_span x) (setting_view s))) all)
    ∙ sym (map_settings-settings_view (λ x. at_span x) c.args.settings.now.items)

-- what a setting shows holds of the one that it equals
module _ (setting one : Setting Span) (is : setting ≡ one) where
  same : map_setting (λ x. at_span x) (setting_view one) ≡ map_setting (λ x. at_span x) (setting_view setting)
  same = ap (λ s. map_setting (λ x. at_span x) (setting_view s)) (sym is)

pub located-returns-in_ok-to_location-in-Unitary : goal.located-returns-in_ok-to_location-in-Unitary
located-returns-in_ok-to_location-in-Unitary t c =
    view_name _ ∙ ap Unitary c.in_ok-to_location-in-Unitary.ensures ∙ sym (ap (map_setting (λ x. at_span x)) (view_name _)) ∙ same _ _ c.in-Unitary.is

pub located-returns-in_ok-arg-in-Constructor : goal.located-returns-in_ok-arg-in-Constructor
located-returns-in_ok-arg-in-Constructor t c =
    view_applied _ _ ∙ (λ i. Constructor (c.in_ok-ctor-in-Constructor.ensures i) (c.in_ok-arg-in-Constructor.ensures i))
    ∙ sym (ap (map_setting (λ x. at_span x)) (view_applied _ _)) ∙ same _ _ c.in-Constructor.is

pub located-returns-in-Num : goal.located-returns-in-Num
located-returns-in-Num t c = view_number _ _ ∙ sym (ap (map_setting (λ x. at_span x)) (view_number _ _)) ∙ same _ _ c.in-Num.is

pub located-returns-in_ok-all_located-in-Array : goal.located-returns-in_ok-all_located-in-Array
located-returns-in_ok-all_located-in-Array t c =
    view_array _ _ _ ∙ ap (λ inside. Array inside (at_span c.in-Array.opens) (at_span c.in-Array.closes)) c.in_ok-all_located-in-Array.ensures
    ∙ sym (ap (map_setting (λ x. at_span x)) (view_array _ _ _)) ∙ same _ _ c.in-Array.is
