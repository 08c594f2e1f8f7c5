use Rattle.std.proofs.Common.{◌≡◌, map, drop}
use Rattle.cfgitems.specs.SyntaxView.{symbol_view}
use Rattle.cfgast.specs.TreeView.{syntax}
use Rattle.cfgast.specs.Check.{first_error, symbol_error}
use Rattle.cfgvalidation.proofs.validation.check_symbols.Given as goal

abbrev pub invariant-loop-symbol : goal.invariant-loop-symbol
invariant-loop-symbol l =
    first_error (symbol_error (syntax l.ast)) (map symbol_view l.symbols)
    ≡ first_error (symbol_error (syntax l.ast)) (map symbol_view (drop l.symbol-index l.symbols))
