use Rattle.std.proofs.Common.{◌≡◌, map, take}
use Rattle.bison_tree.specs.Inner.Views.{is_token_in, names_in, symbol_view, words_in}
use Rattle.bison_tree.specs.Productions.{symbol_of}
use Rattle.bison_tree.proofs.productions.symbols_of.Given as goal

abbrev pub invariant-loop-piece : goal.invariant-loop-piece
invariant-loop-piece l =
    map symbol_view l.body.items ≡ map (symbol_of (words_in l.symbols) (names_in l.symbols) (is_token_in l.symbols)) (take l.piece-index l.pieces)
