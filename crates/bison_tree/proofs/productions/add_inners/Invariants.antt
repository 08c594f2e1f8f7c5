use Rattle.std.proofs.Common.{◌≡◌, filter_map, drop}
use Rattle.cfgitems.specs.Building.{adds}
use Rattle.cfgitems.specs.SyntaxView.{syntax_built}
use Rattle.bison_tree.specs.Inner.Views.{words_in}
use Rattle.bison_tree.specs.Productions.{inner_production}
use Rattle.bison_tree.proofs.productions.add_inners.Given as goal

-- what is built, with the rest
abbrev pub invariant-loop-piece : goal.invariant-loop-piece
invariant-loop-piece l =
    adds (syntax_built l.builder) (filter_map (inner_production (words_in l.symbols)) (drop l.piece-index l.pieces))
    ≡ adds (syntax_built l.fn.builder) (filter_map (inner_production (words_in l.symbols)) l.pieces)
