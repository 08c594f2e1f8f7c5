use Rattle.std.proofs.Common.{ap}
use Rattle.cfgnumbers.specs.Numbered.{Numbered}
use Rattle.cfgnumbers.specs.TablesView.{tables}
use Rattle.cfgyacc.proofs.Shows.{production_shown, production_there}
use Rattle.cfgnumbers.proofs.Within.{refers, symbols_within}
use Rattle.cfgyacc.proofs.grammar.tables.YaccGrammar.prod.Goals as goal

pub symbols-requires : goal.symbols-requires
unfolding tables
symbols-requires g c = production_there c.self.inside.prods c.args.self.now (ap (λ (t : Numbered). t.productions) c.self.view_is) c.from.result (g.S.Storage.number c.args.pidx.0) c.from.ensures c.requires

pub returns-clause-value : goal.returns-clause-value
unfolding tables
returns-clause-value g c = production_shown c.self.inside.prods c.args.self.now (ap (λ (t : Numbered). t.productions) c.self.view_is) c.from.result (g.S.Storage.number c.args.pidx.0) c.from.ensures
    (λ p. p.symbols) _ c.symbols.ensures

pub returns-clause-within : goal.returns-clause-within
returns-clause-within g c =
    symbols_within g.S.Storage.number c.args.self.now c.symbols.result.now
    ((refers g.S.Storage.MAX _ c.args.self.now c.self.invariant c.self.view_is).symbols (g.S.Storage.number c.args.pidx.0) _ (returns-clause-value g c))
