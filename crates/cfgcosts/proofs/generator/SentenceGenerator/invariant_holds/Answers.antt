use Rattle.std.proofs.Common.{◌≤◌, subst}
use Rattle.derivation.specs.Grammar.{IsGrammar}
use Rattle.cfgleast.specs.Generator.{CostTables, IsGenerator}
use Rattle.cfgcosts.proofs.generator.SentenceGenerator.invariant_holds.Goals as goal

pub returns : goal.returns
returns g c =
    let n = c.self.inside.settled.number in
    record {
      generator = (n, subst (λ (x : CostTables). IsGenerator x n) c.self.view_is c.self.invariant.0);
      grammar = subst (λ (x : CostTables). IsGrammar x.grammar) c.self.view_is c.invariant_holds.ensures.content;
      rules = subst (λ (x : CostTables). x.grammar.rules ≤ g.S.Storage.MAX) c.self.view_is c.invariant_holds.ensures.rules;
    }
