use Rattle.search.proofs.Reaching.{left_to_do}
use Rattle.cfgchoices.specs.Kinds.{production_numbers}
use Rattle.cfgcosts.proofs.ReachedBases.{BaseSearch}
use Rattle.cfgcosts.proofs.generator.SentenceGenerator.base_productions.Given as goal

abbrev pub invariant-loop-node : goal.invariant-loop-node
invariant-loop-node g l = BaseSearch l.self (g.S.Storage.number l.fn.rule.0) (production_numbers g.S.Storage.number l.base.items) l.search

abbrev pub decreases-loop-node : goal.decreases-loop-node
decreases-loop-node g l = left_to_do l.search
