use Rattle.std.proofs.Common.{◌≡◌, Some, map, option_map, slice_get, take}
use Rattle.cfgitems.specs.SyntaxView.{symbol_view}
use Rattle.cfgindex.specs.declared.idxnewtype.TIdx.{TIdx}
use Rattle.cfgnumbers.specs.Numbered.{file_symbols, last_token}
use Rattle.cfgnumbers.specs.TablesView.{file_of, implicit_in}
use Rattle.cfgtables.specs.NumberedSymbols.{sym_of}
use Rattle.cfgnumbers.proofs.numbering.Numbering.number_symbols.Given as goal

abbrev pub invariant-loop-symbol : goal.invariant-loop-symbol
invariant-loop-symbol g l =
    (map (sym_of g.S.Storage.number) l.numbered.items ≡ file_symbols (implicit_in l.self) (file_of l.self) (map symbol_view (take l.symbol-index l.symbols)))
    × (option_map (λ (token : TIdx g.row.S.Denot). slice_get (file_of l.self).tokens (g.S.Storage.number token.0)) l.last ≡ option_map Some (last_token (map symbol_view (take l.symbol-index l.symbols))))
