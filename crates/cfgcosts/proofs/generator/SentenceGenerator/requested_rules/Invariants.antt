use Rattle.search.proofs.Reaching.{left_to_do}
use Rattle.cfgcosts.proofs.RequestedRules.{Asking}
use Rattle.cfgcosts.proofs.generator.SentenceGenerator.requested_rules.Given as goal

abbrev pub invariant-loop-node : goal.invariant-loop-node
invariant-loop-node g l = Asking l.self (g.S.Storage.number l.fn.rule.0) l.requested l.search

abbrev pub decreases-loop-node : goal.decreases-loop-node
decreases-loop-node g l = left_to_do l.search
