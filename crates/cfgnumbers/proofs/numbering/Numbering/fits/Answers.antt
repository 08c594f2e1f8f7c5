use Rattle.std.proofs.Common.{◌≤◌, All, length, sym, subst}
use Rattle.std.proofs.lemmas.List.Elements.{All-map}
use Rattle.cfgitems.specs.Syntax.{Production}
use Rattle.cfgitems.specs.SyntaxView.{production_view}
use Rattle.cfgnumbers.specs.Numbered.{file_symbols}
use Rattle.cfgnumbers.specs.TablesView.{file_of, implicit_in}
use Rattle.cfgnumbers.proofs.Turns.{All-shown}
use Rattle.cfgnumbers.proofs.numbering.Numbering.fits.Goals as goal

pub returns-then-counts_fit : goal.returns-then-counts_fit
returns-then-counts_fit g c =
    let IsShort = λ (production : Production). length (file_symbols (implicit_in c.args.self.now) (file_of c.args.self.now) production.symbols) ≤ g.S.Storage.MAX in
    let counts = c.counts_fit.ensures.0 c.if-counts_fit.true in (
      λ fit. record {
        rules = counts.0;
        tokens = counts.1;
        productions = counts.2;
        symbols = subst (All IsShort) c.prods.ensures (All-map IsShort production_view c.prods.result.now (c.all_symbols_fit.ensures.0 fit));
      },
      λ room. c.all_symbols_fit.ensures.1 (All-shown IsShort production_view c.prods.result.now (subst (All IsShort) (sym c.prods.ensures) room.symbols)),
    )
