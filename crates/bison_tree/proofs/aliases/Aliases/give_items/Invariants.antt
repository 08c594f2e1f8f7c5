use Rattle.std.proofs.Common.{◌≡◌, map, fold, filter_map, drop}
use Rattle.std.specs.String.{string_bytes}
use Rattle.bison_reader.specs.Items.{item_view}
use Rattle.bison_tree.specs.Names.{alias_in, with_alias}
use Rattle.bison_tree.specs.Inner.Views.{IsConsistent, aliases_view}
use Rattle.bison_tree.proofs.aliases.Aliases.give_items.Given as goal

-- those so far, with those of the rest
abbrev pub invariant-loop-item : goal.invariant-loop-item
invariant-loop-item l =
    record {
      given : fold with_alias (aliases_view l.self) (filter_map (alias_in (map string_bytes l.own)) (map item_view (drop l.item-index l.items)))
          ≡ fold with_alias (aliases_view l.fn.self) (filter_map (alias_in (map string_bytes l.own)) (map item_view l.items));
      consistent : IsConsistent l.self;
    }
