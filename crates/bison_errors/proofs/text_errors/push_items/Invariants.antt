use Rattle.std.proofs.Common.{◌≡◌, ◌++◌, map, drop}
use Rattle.std.specs.List.{flat_map}
use Rattle.bison_words.specs.Words.{word_view}
use Rattle.bison_reader.specs.Items.{item_view}
use Rattle.bison_errors.specs.Errors.{item_errors}
use Rattle.bison_errors.proofs.text_errors.push_items.Given as goal

-- the errors so far, and those of the rest
abbrev pub invariant-loop-item : goal.invariant-loop-item
invariant-loop-item l =
    l.errors.items ++ flat_map (item_errors (map word_view l.words)) (map item_view (drop l.item-index l.items))
    ≡ l.fn.errors.items ++ flat_map (item_errors (map word_view l.words)) (map item_view l.items)
