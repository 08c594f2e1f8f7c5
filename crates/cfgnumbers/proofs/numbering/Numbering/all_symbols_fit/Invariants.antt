use Rattle.std.proofs.Common.{◌≤◌, All, length, map, take}
use Rattle.cfgitems.specs.SyntaxView.{symbol_view}
use Rattle.cfgnumbers.specs.Numbered.{file_symbols}
use Rattle.cfgnumbers.specs.TablesView.{file_of, implicit_in}
use Rattle.cfgnumbers.proofs.numbering.Numbering.all_symbols_fit.Given as goal

abbrev pub invariant-loop-production : goal.invariant-loop-production
invariant-loop-production g l =
    All (λ production. length (file_symbols (implicit_in l.self) (file_of l.self) (map symbol_view production.symbols.items)) ≤ g.S.Storage.MAX)
    (take l.production-index l.productions)
