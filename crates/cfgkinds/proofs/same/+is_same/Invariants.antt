use Rattle.std.proofs.Common.{◌≡◌, drop}
use Rattle.cfgkinds.specs.Values.{settings_view}
use Rattle.cfgkinds.specs.SameValues.{same_settings}
use Rattle.cfgkinds.proofs.same.+is_same.Given as goal

-- the rest of the settings decides
abbrev pub invariant-are_same-loop-index : goal.invariant-are_same-loop-index
invariant-are_same-loop-index g l =
    same_settings g.T.PartialEq.eq (settings_view l.settings.items) (settings_view l.others.items)
    ≡ same_settings g.T.PartialEq.eq (settings_view (drop l.index l.settings.items)) (settings_view (drop l.index l.others.items))
