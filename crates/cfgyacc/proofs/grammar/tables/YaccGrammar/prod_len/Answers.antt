use Rattle.std.proofs.Common.{Some, arith, ap, subst, ◌∙◌}
use Rattle.std.proofs.lemmas.List.{length-map}
use Rattle.cfgnumbers.specs.Fits.{Fits}
use Rattle.cfgnumbers.specs.Numbered.{Numbered}
use Rattle.cfgnumbers.specs.TablesView.{tables}
use Rattle.cfgtables.specs.NumberedSymbols.{sym_of}
use Rattle.cfgyacc.proofs.Shows.{production_shown, production_there, symbols_counted, symbols_long}
use Rattle.cfgyacc.proofs.grammar.tables.YaccGrammar.prod_len.Goals as goal

pub symbols-requires : goal.symbols-requires
unfolding tables
symbols-requires g c = production_there c.self.inside.prods c.args.self.now (ap (λ (t : Numbered). t.productions) c.self.view_is) c.from.result (g.S.Storage.number c.args.pidx.0) c.from.ensures c.requires

pub to_storage-requires : goal.to_storage-requires
unfolding tables
to_storage-requires g c =
    let held = production_shown c.self.inside.prods c.args.self.now (ap (λ (t : Numbered). t.productions) c.self.view_is) c.from.result (g.S.Storage.number c.args.pidx.0) c.from.ensures
    (λ p. p.symbols) _ c.symbols.ensures in
    let fit = symbols_counted g.S.Storage.MAX c.args.self.now (subst (Fits g.S.Storage.MAX) c.self.view_is c.self.invariant.counted) (g.S.Storage.number c.args.pidx.0) _ held in
    omega (arith, fit, length-map c.symbols.result.now (sym_of g.S.Storage.number))

pub returns : goal.returns
unfolding tables
returns g c =
    let held = production_shown c.self.inside.prods c.args.self.now (ap (λ (t : Numbered). t.productions) c.self.view_is) c.from.result (g.S.Storage.number c.args.pidx.0) c.from.ensures
    (λ p. p.symbols) _ c.symbols.ensures in
    symbols_long c.args.self.now (g.S.Storage.number c.args.pidx.0) _ held
    ∙ ap Some (omega (arith, length-map c.symbols.result.now (sym_of g.S.Storage.number), c.to_storage.ensures))
