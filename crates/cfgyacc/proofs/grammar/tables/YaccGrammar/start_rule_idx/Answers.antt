use Rattle.std.proofs.Common.{arith}
use Rattle.cfgnumbers.proofs.Within.{refers}
use Rattle.cfgyacc.proofs.grammar.tables.YaccGrammar.start_rule_idx.Goals as goal

pub returns-clause-within : goal.returns-clause-within
returns-clause-within g c = omega (arith, (refers g.S.Storage.MAX _ c.args.self.now c.self.invariant c.self.view_is).start_rule, c.to_storage.ensures)
