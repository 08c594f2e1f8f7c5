use Rattle.std.proofs.Common.{◌≡◌, map, take}
use Rattle.cfgitems.specs.SyntaxView.{token_view}
use Rattle.bison_tree.specs.Inner.Views.{symbol_view}
use Rattle.bison_tree.proofs.productions.tokens_of.Given as goal

abbrev pub invariant-loop-symbol : goal.invariant-loop-symbol
invariant-loop-symbol l =
    map token_view l.tokens.items ≡ map symbol_view (take l.symbol-index l.body)
