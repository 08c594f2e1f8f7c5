use Rattle.std.proofs.Common.{ap}
use Rattle.cfgnumbers.specs.Numbered.{Numbered}
use Rattle.cfgnumbers.specs.TablesView.{tables}
use Rattle.cfgyacc.proofs.Shows.{production_shown, production_there}
use Rattle.cfgyacc.proofs.grammar.tables.YaccGrammar.action.Goals as goal

pub row-requires : goal.row-requires
unfolding tables
row-requires g c = production_there c.self.inside.prods c.args.self.now (ap (λ (t : Numbered). t.productions) c.self.view_is) c.from.result (g.S.Storage.number c.args.pidx.0) c.from.ensures c.requires

pub returns : goal.returns
unfolding tables
returns g c = production_shown c.self.inside.prods c.args.self.now (ap (λ (t : Numbered). t.productions) c.self.view_is) c.from.result (g.S.Storage.number c.args.pidx.0) c.from.ensures
    (λ p. p.action) _ c.row.ensures.action
