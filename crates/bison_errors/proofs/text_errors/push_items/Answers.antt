use Rattle.std.proofs.Common.{map, refl}
use Rattle.std.specs.List.{flat_map}
use Rattle.bison_words.specs.Words.{word_view}
use Rattle.bison_reader.specs.Items.{item_view}
use Rattle.bison_errors.specs.Errors.{item_errors}
use Rattle.bison_tree.proofs.Steps.{stepped_by}
use Rattle.bison_errors.proofs.text_errors.push_items.Goals as goal

pub loop-item-preserved : goal.loop-item-preserved
loop-item-preserved c =
    let errors = item_errors (map word_view c.args.words.now) in
    stepped_by item_view (flat_map errors) errors (λ y ys. refl)
    c.args.items.now c.loop-item.item-index c.item-item.result c.loop-item-test.true c.item-item.is
    c.loop-item.errors.items c.push_item.new.errors.items _ c.in_ok-push_item.ensures c.loop-item.invariant
