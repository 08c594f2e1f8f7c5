use Rattle.std.proofs.Common.{◌≡◌, map, filter_map, drop}
use Rattle.cfgitems.specs.Building.{adds}
use Rattle.cfgitems.specs.SyntaxView.{syntax_built}
use Rattle.bison_reader.specs.Items.{item_view}
use Rattle.bison_tree.specs.Inner.Views.{names_in, words_in}
use Rattle.bison_tree.specs.Tree.{named_rule, rule_in}
use Rattle.bison_tree.proofs.symbols.Symbols.add_named_rules.Given as goal

-- what is built, with the rest
abbrev pub invariant-loop-item : goal.invariant-loop-item
invariant-loop-item l =
    adds (syntax_built l.builder) (map (named_rule (words_in l.self) (names_in l.self)) (filter_map rule_in (map item_view (drop l.item-index l.items))))
    ≡ adds (syntax_built l.fn.builder) (map (named_rule (words_in l.self) (names_in l.self)) (filter_map rule_in (map item_view l.items)))
