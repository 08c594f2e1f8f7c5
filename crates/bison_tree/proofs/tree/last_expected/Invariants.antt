use Rattle.std.proofs.Common.{◌≡◌, map, fold, drop}
use Rattle.bison_reader.specs.Items.{item_view}
use Rattle.bison_tree.specs.Tree.{last_expected, with_expected}
use Rattle.bison_tree.proofs.tree.last_expected.Given as goal

abbrev pub invariant-loop-item : goal.invariant-loop-item
invariant-loop-item l =
    fold with_expected (l.expect, l.expect_reduce_reduce) (map item_view (drop l.item-index l.items)) ≡ last_expected (map item_view l.items)
