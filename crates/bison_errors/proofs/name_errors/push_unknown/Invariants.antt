use Rattle.std.proofs.Common.{◌≡◌, List, ◌++◌, map, drop}
use Rattle.std.specs.String.{string_bytes}
use Rattle.cfgast.specs.TreeView.{syntax}
use Rattle.cfgitems.specs.Syntax.{Symbol}
use Rattle.cfgitems.specs.SyntaxView.{symbol_view}
use Rattle.bison_errors.specs.Errors.{unknown_after}
use Rattle.bison_errors.proofs.name_errors.push_unknown.Given as goal

-- the errors so far, and those of the symbols that are left and of others that follow them
abbrev pub invariant-loop-symbol : goal.invariant-loop-symbol
invariant-loop-symbol l = (rest : List Symbol)
    → l.errors.items ++ unknown_after (syntax l.ast) (map string_bytes l.known.keys) (map symbol_view (drop l.symbol-index l.symbols) ++ rest)
    ≡ l.fn.errors.items ++ unknown_after (syntax l.ast) (map string_bytes l.fn.known.keys) (map symbol_view l.symbols ++ rest)
