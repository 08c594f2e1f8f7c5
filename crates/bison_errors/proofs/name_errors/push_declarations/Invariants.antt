use Rattle.std.proofs.Common.{◌≡◌, ◌++◌, map, drop}
use Rattle.std.specs.List.{flat_map}
use Rattle.std.specs.String.{string_bytes}
use Rattle.bison_words.specs.Words.{word_view}
use Rattle.bison_reader.specs.Items.{item_view}
use Rattle.bison_errors.specs.Errors.{declaration_errors}
use Rattle.bison_tree.specs.Tree.{first_start}
use Rattle.bison_errors.proofs.name_errors.push_declarations.Given as goal

-- the errors so far, and those of the rest
abbrev pub invariant-loop-item : goal.invariant-loop-item
invariant-loop-item l =
    l.errors.items ++ flat_map (declaration_errors (map word_view l.words) (map string_bytes l.names) (first_start (map item_view l.items))) (map item_view (drop l.item-index l.items))
    ≡ l.fn.errors.items ++ flat_map (declaration_errors (map word_view l.words) (map string_bytes l.names) (first_start (map item_view l.items))) (map item_view l.items)
