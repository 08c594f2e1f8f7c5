use Rattle.std.proofs.Common.{ℕ, List, length}
use Rattle.cfgcosts.specs.Inner.Minimal.{AreRequested, sentences_in}
use Rattle.cfgcosts.proofs.Filled.{Filling}
use Rattle.cfgcosts.proofs.generator.SentenceGenerator.all_sentences.Given as goal

abbrev pub invariant-loop-cost : goal.invariant-loop-cost
invariant-loop-cost g l = (all : List (ℕ × ℕ)) × AreRequested l.self (g.S.Storage.number l.fn.rule.0) all × Filling l.self all l.requested (sentences_in g.S.Storage.number l.table)

abbrev pub decreases-loop-cost : goal.decreases-loop-cost
decreases-loop-cost g l = length l.requested
