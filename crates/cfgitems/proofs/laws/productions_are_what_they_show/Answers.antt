use Rattle.std.proofs.Common.{rules}
use Rattle.cfgitems.specs.SyntaxView.{symbol_view}
use Rattle.cfgitems.specs.contracts.symbol.SymbolPartialEq.TheImpl.{ghosts as symbols}
use Rattle.cfgitems.proofs.Compared.{lists_show}
use Rattle.cfgitems.proofs.laws.productions_are_what_they_show.Goals as goal

pub returns : goal.returns
returns c a b =
    let same = lists_show symbols.eq symbol_view (λ x y. search rules) a.symbols.items b.symbols.items in
    search rules
