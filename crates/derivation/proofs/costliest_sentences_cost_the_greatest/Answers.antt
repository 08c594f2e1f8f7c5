use Rattle.derivation.specs.Grammar.{HasProduction}
use Rattle.derivation.proofs.Costs.{greatest_if_none_more}
use Rattle.derivation.proofs.costliest_sentences_cost_the_greatest.Goals as goal

pub returns : goal.returns
returns c = λ g. greatest_if_none_more (HasProduction g)
