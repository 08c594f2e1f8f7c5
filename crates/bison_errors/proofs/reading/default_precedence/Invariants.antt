use Rattle.std.proofs.Common.{◌≡◌, map, fold, drop, true}
use Rattle.bison_reader.specs.Items.{item_view}
use Rattle.bison_errors.specs.Reading.{with_default}
use Rattle.bison_errors.proofs.reading.default_precedence.Given as goal

abbrev pub invariant-loop-item : goal.invariant-loop-item
invariant-loop-item l = fold with_default l.holds (map item_view (drop l.item-index l.items)) ≡ fold with_default true (map item_view l.items)
