use Rattle.std.proofs.Common.{◌≡◌, None, All, map, sym, subst}
use Rattle.cfgitems.specs.SyntaxView.{symbol_view}
use Rattle.cfgast.specs.Check.{symbol_error}
use Rattle.cfgnumbers.specs.TablesView.{file_of}
use Rattle.cfgnumbers.proofs.numbering.Numbering.push_file_row.Goals as goal

pub number_symbols-requires-clause-known : goal.number_symbols-requires-clause-known
number_symbols-requires-clause-known g c =
    subst (λ symbols. All (λ symbol. symbol_error (file_of c.args.self.now) symbol ≡ None) (map symbol_view symbols)) (sym c.deref.ensures.value) c.requires.resolved
