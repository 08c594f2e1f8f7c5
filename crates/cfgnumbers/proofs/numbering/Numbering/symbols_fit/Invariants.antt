use Rattle.std.proofs.Common.{◌≡◌, ◌+◌, length, map, take}
use Rattle.cfgitems.specs.SyntaxView.{symbol_view}
use Rattle.cfgnumbers.specs.Numbered.{file_symbols}
use Rattle.cfgnumbers.specs.TablesView.{file_of, implicit_in}
use Rattle.cfgnumbers.proofs.numbering.Numbering.symbols_fit.Given as goal

abbrev pub invariant-loop-symbol : goal.invariant-loop-symbol
invariant-loop-symbol g l =
    l.left + length (file_symbols (implicit_in l.self) (file_of l.self) (map symbol_view (take l.symbol-index l.symbols))) ≡ g.S.Storage.MAX
