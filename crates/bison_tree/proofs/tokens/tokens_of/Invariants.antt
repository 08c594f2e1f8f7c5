use Rattle.std.proofs.Common.{◌≡◌, ◌++◌, map, drop}
use Rattle.std.specs.List.{flat_map}
use Rattle.bison_words.specs.Words.{word_view}
use Rattle.bison_reader.specs.Items.{item_view}
use Rattle.bison_tree.specs.Tokens.{tokens_in}
use Rattle.bison_tree.proofs.tokens.tokens_of.Given as goal

-- those so far, and those of the rest
abbrev pub invariant-loop-item : goal.invariant-loop-item
invariant-loop-item l =
    l.tokens.items ++ flat_map (tokens_in (map word_view l.words)) (map item_view (drop l.item-index l.items))
    ≡ flat_map (tokens_in (map word_view l.words)) (map item_view l.items)
