use Rattle.cfgcosts.specs.Inner.Minimal.{sentences_in}
use Rattle.cfgcosts.proofs.Components.{AreFilled}
use Rattle.cfgcosts.proofs.generator.SentenceGenerator.sentence_table.Given as goal

abbrev pub invariant-loop-number : goal.invariant-loop-number
invariant-loop-number g l = AreFilled l.self l.components.numbers.items l.number (sentences_in g.S.Storage.number l.table)
