use Rattle.std.proofs.Common.{◌≡◌, map, drop}
use Rattle.bison_reader.specs.Items.{item_view}
use Rattle.bison_tree.specs.Tree.{first_start}
use Rattle.bison_tree.proofs.tree.first_start.Given as goal

abbrev pub invariant-loop-item : goal.invariant-loop-item
invariant-loop-item l =
    first_start (map item_view l.items) ≡ first_start (map item_view (drop l.item-index l.items))
