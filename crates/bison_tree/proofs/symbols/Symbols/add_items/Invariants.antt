use Rattle.std.proofs.Common.{◌≡◌, map, drop, length}
use Rattle.cfgitems.specs.Building.{adds}
use Rattle.cfgitems.specs.SyntaxView.{syntax_built}
use Rattle.bison_reader.specs.Items.{item_view}
use Rattle.bison_tree.specs.Inner.Views.{is_token_in, names_in, words_in}
use Rattle.bison_tree.specs.Tree.{said_after}
use Rattle.bison_tree.proofs.symbols.Symbols.add_items.Given as goal

-- what is built, with the rest
abbrev pub invariant-loop-item : goal.invariant-loop-item
invariant-loop-item l =
    adds (syntax_built l.builder) (said_after (words_in l.self) (names_in l.self) (is_token_in l.self) (length l.inners.items) (map item_view (drop l.item-index l.items)))
    ≡ adds (syntax_built l.fn.builder) (said_after (words_in l.self) (names_in l.self) (is_token_in l.self) 0 (map item_view l.items))
