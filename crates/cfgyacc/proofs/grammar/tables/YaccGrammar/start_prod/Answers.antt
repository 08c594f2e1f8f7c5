use Rattle.std.proofs.Common.{ap, arith}
use Rattle.cfgnumbers.specs.Numbered.{Numbered}
use Rattle.cfgnumbers.specs.TablesView.{tables}
use Rattle.cfgnumbers.proofs.Within.{refers}
use Rattle.cfgyacc.proofs.grammar.tables.YaccGrammar.start_prod.Goals as goal

pub returns-clause-within : goal.returns-clause-within
unfolding tables
returns-clause-within g c = omega (arith, (refers g.S.Storage.MAX _ c.args.self.now c.self.invariant c.self.view_is).start_production, ap (λ (t : Numbered). t.start_production) c.self.view_is)
