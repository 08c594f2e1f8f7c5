use Rattle.std.proofs.Common.{◌≡◌, map, take}
use Rattle.std.specs.String.{string_bytes}
use Rattle.bison_tree.specs.Inner.Views.{aliases_view}
use Rattle.bison_tree.specs.Names.{called}
use Rattle.bison_tree.proofs.aliases.called.Given as goal

abbrev pub invariant-loop-name : goal.invariant-loop-name
invariant-loop-name l =
    map string_bytes l.names.items ≡ map (called (aliases_view l.aliases)) (map string_bytes (take l.name-index l.own))
