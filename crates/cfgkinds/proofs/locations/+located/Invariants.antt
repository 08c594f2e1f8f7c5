use Rattle.std.proofs.Common.{◌≡◌, map, take}
use Rattle.cfgbase.specs.declared.span.Location.TheVariants.{Span as at_span}
use Rattle.cfgkinds.specs.Values.{map_setting, setting_view}
use Rattle.cfgkinds.proofs.locations.+located.Given as goal

abbrev pub invariant-all_located-loop-setting : goal.invariant-all_located-loop-setting
invariant-all_located-loop-setting l =
    map setting_view l.copies.items ≡ map (λ s. map_setting at_span (setting_view s)) (take l.setting-index l.setting-items)
