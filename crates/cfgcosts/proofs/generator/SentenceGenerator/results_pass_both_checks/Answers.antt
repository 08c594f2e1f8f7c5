use Rattle.std.proofs.Common.{subst}
use Rattle.cfgleast.specs.Generator.{CostTables, IsGenerator}
use Rattle.cfgleast.proofs.Generated.{results_covered, results_reached}
use Rattle.cfgcosts.proofs.generator.SentenceGenerator.results_pass_both_checks.Goals as goal

pub returns : goal.returns
returns g c =
    let number = c.self.inside.settled.number in
    let is = subst (λ (x : CostTables). IsGenerator x number) c.self.view_is c.self.invariant.0 in
    record {
      least = results_covered c.args.self.now number is;
      reached = λ least choices rules answered chosen. results_reached c.args.self.now number is least rules answered choices chosen;
    }
