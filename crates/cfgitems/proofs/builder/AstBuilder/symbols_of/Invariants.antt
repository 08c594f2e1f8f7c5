use Rattle.std.proofs.Common.{◌≡◌, map, take}
use Rattle.cfgitems.specs.Syntax.{symbol_of}
use Rattle.cfgitems.specs.Building.{is_declared}
use Rattle.cfgitems.specs.SyntaxView.{syntax_built, symbol_view, token_view}
use Rattle.cfgitems.proofs.builder.AstBuilder.symbols_of.Given as goal

abbrev pub invariant-loop-symbol : goal.invariant-loop-symbol
invariant-loop-symbol l = map symbol_view l.symbols.items ≡ map (symbol_of (is_declared (syntax_built l.self))) (map token_view (take l.symbol-index l.body))
