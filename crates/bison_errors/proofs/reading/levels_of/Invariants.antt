use Rattle.std.proofs.Common.{◌≡◌, ◌++◌, map, filter_map, drop}
use Rattle.bison_reader.specs.Items.{item_view}
use Rattle.bison_errors.specs.Reading.{level_in}
use Rattle.bison_errors.proofs.reading.levels_of.Given as goal

-- the levels so far, and those of the rest
abbrev pub invariant-loop-item : goal.invariant-loop-item
invariant-loop-item l =
    l.levels.items ++ filter_map level_in (map item_view (drop l.item-index l.items)) ≡ filter_map level_in (map item_view l.items)
