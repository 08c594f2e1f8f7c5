use Rattle.std.proofs.Common.{◌≡◌, map, drop}
use Rattle.cfgitems.specs.Building.{adds}
use Rattle.cfgitems.specs.SyntaxView.{syntax_built}
use Rattle.bison_tree.specs.Inner.Views.{names_in, words_in}
use Rattle.bison_tree.specs.Tree.{token_quoted}
use Rattle.bison_tree.proofs.symbols.Symbols.add_tokens.Given as goal

-- what is built, with the rest
abbrev pub invariant-loop-token : goal.invariant-loop-token
invariant-loop-token l =
    adds (syntax_built l.builder) (map (token_quoted (words_in l.self) (names_in l.self)) (drop l.token-index l.tokens))
    ≡ adds (syntax_built l.fn.builder) (map (token_quoted (words_in l.self) (names_in l.self)) l.tokens)
