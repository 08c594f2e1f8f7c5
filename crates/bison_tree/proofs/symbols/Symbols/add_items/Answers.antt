use Rattle.std.proofs.Common.{◌+◌, map, drop, length, sym, ap, ◌∙◌}
use Rattle.cfgitems.specs.Building.{adds}
use Rattle.cfgitems.specs.SyntaxView.{syntax_built}
use Rattle.bison_reader.specs.Items.{item_view}
use Rattle.bison_tree.specs.Inner.Views.{is_token_in, names_in, words_in}
use Rattle.bison_tree.specs.Tree.{inners_with, said, said_after}
use Rattle.bison_tree.proofs.Adds.{adds_append}
use Rattle.bison_tree.proofs.Steps.{opened}
use Rattle.bison_tree.proofs.symbols.Symbols.add_items.Goals as goal

pub loop-item-preserved : goal.loop-item-preserved
unfolding adds
loop-item-preserved c =
    let self = c.args.self in
    let after = said_after (words_in self) (names_in self) (is_token_in self) in
    let built = syntax_built c.loop-item.builder in
    let n = length c.loop-item.inners.items in
    let item = item_view c.item-item.result in
    let rest = map item_view (drop (c.loop-item.item-index + 1) c.args.items.now) in
    let next = opened item_view (after n) c.args.items.now c.loop-item.item-index c.item-item.result c.loop-item-test.true c.item-item.is in
    (λ j. adds (c.in_ok-add_item.ensures.added j) (after (c.in_ok-add_item.ensures.counted j) rest))
    ∙ sym (adds_append built (said (words_in self) (names_in self) (is_token_in self) n item) (after (inners_with n item) rest))
    ∙ ap (λ items. adds built items) (sym next) ∙ c.loop-item.invariant
