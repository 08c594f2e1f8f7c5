use Rattle.std.proofs.Common.{◌≡◌, ◌++◌, drop, map}
use Rattle.std.specs.List.{filter_map}
use Rattle.cfgitems.specs.SyntaxView.{symbol_view}
use Rattle.cfgast.specs.Check.{symbol_error}
use Rattle.cfgast.specs.TreeView.{syntax}
use Rattle.cfgvalidation.proofs.every_check.push_symbols.Given as goal

-- the errors so far, and those of the rest
abbrev pub invariant-loop-symbol : goal.invariant-loop-symbol
invariant-loop-symbol l =
    l.errors.items ++ filter_map (symbol_error (syntax l.ast)) (map symbol_view (drop l.symbol-index l.symbols))
    ≡ l.fn.errors.items ++ filter_map (symbol_error (syntax l.ast)) (map symbol_view l.symbols)
